use Rattle.std.proofs.Common.{rules, ◌≡◌, ◌∙◌, ap, sym, subst, false, None}
use Rattle.std.specs.Arc.{arc_value}
use Rattle.runner_report.specs.Reports.{NoBadBelow}
use Rattle.ctxbound_suite.specs.{Answers.{AnswerMeans, answer_of, stop_of}, Shown.is_clean}
use Rattle.ctxbound_suite.proofs.Answers.{stopped_at, gone_through}
use Rattle.ctxbound_suite.proofs.answer.answer_by_bounds.Goals as goal

pub returns-then-not-is_clean-clause-answer : goal.returns-then-not-is_clean-clause-answer
returns-then-not-is_clean-clause-answer g c =
    let p = arc_value c.args.program.now in
    let l = c.args.limits in
    let f = c.in_ok-found.found in
    let dirty : is_clean f.report.verdict ≡ false = search rules in
    let told : c.bad_or_undecided.result ≡ answer_of f.bad c.args.known c.loop-bound.bound =
    c.bad_or_undecided.ensures
    ∙ ap (λ k. answer_of f.bad k c.loop-bound.bound) c.loop-bound.invariant.known in
    subst (AnswerMeans p l) (sym told)
    (stopped_at p l f c.args.known c.loop-bound.bound c.in_ok-found.ensures.found dirty
    c.requires.known c.loop-bound.invariant.none)

pub returns-clause-answer : goal.returns-clause-answer
returns-clause-answer g c =
    let p = arc_value c.args.program.now in
    let l = c.args.limits in
    let stop : c.bound_count-stop.result ≡ stop_of c.args.known l.bound =
    c.bound_count-stop.ensures in
    let over : c.loop-bound.bound ≡ c.bound_count-stop.result = search rules in
    let none : NoBadBelow p (stop_of c.args.known l.bound) =
    subst (NoBadBelow p) (over ∙ stop) c.loop-bound.invariant.none in
    let told : c.bad_or_undecided-2.result
    ≡ answer_of None c.args.known (stop_of c.args.known l.bound) =
    c.bad_or_undecided-2.ensures
    ∙ (ap (λ k. answer_of None k c.bound_count-stop.result) c.loop-bound.invariant.known
    ∙ ap (λ k. answer_of None c.args.known k) stop) in
    subst (AnswerMeans p l) (sym told)
    (gone_through p l c.args.known c.requires.known none)
