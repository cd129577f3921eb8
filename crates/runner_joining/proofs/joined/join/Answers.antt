use Rattle.std.proofs.Common.{◌∙◌, List, sym, subst, rules}
use Rattle.std.specs.{Arc.arc_value, List.All}
use Rattle.std.proofs.lemmas.Result.{err_from_is_err_and, IfOk-weaker}
use Rattle.guest_code.specs.Program.{Program}
use Rattle.walk_cover.specs.CoverBy.{IsCoverBy}
use Rattle.runner_parts.specs.declared.part.Part.{Part}
use Rattle.runner_joining.specs.Parts.{IsTrue, AreApart, AreTested, JoinErrorMeans, last_mode}
use Rattle.runner_joining.specs.Parts.{prefixes_for}
use Rattle.runner_joining.proofs.joined.join.Goals as goal

pub returns-in_err-check_schedules-clause-error : goal.returns-in_err-check_schedules-clause-error
returns-in_err-check_schedules-clause-error c =
    let p = err_from_is_err_and c.from_residual.result c.from_residual.ensures.1 in
    rw (p.1, p.2) (subst (λ (q : Program).
    JoinErrorMeans q c.args.search c.args.parts.now c.in_err-check_schedules.field-0.0)
    c.deref.ensures (c.in_err-check_schedules.ensures.error c.args.search))

pub returns-in_err-check_agreement-clause-error : goal.returns-in_err-check_agreement-clause-error
returns-in_err-check_agreement-clause-error c =
    let p = err_from_is_err_and c.from_residual-in_err-check_agreement.result
    c.from_residual-in_err-check_agreement.ensures.1 in
    rw (p.1, p.2) (subst (λ (ps : List Part). JoinErrorMeans (arc_value c.args.program.now)
    c.args.search ps c.in_err-check_agreement.field-0.0) c.in_ok-by_prefix.ensures
    (c.in_err-check_agreement.ensures.error (arc_value c.args.program.now) c.args.search))

pub report-requires-clause-schedules : goal.report-requires-clause-schedules
report-requires-clause-schedules c =
    subst (All (IsTrue c.deref-2.result.now)) (sym c.in_ok-by_prefix.ensures)
    (subst (λ (q : Program). All (IsTrue q) c.args.parts.now)
    (c.deref.ensures ∙ sym c.deref-2.ensures) c.in_ok-check_schedules.ensures.all)

pub returns-clause-tested : goal.returns-clause-tested
returns-clause-tested c =
    let cover : IsCoverBy (last_mode c.args.search) (arc_value c.args.program.now)
    (prefixes_for c.args.search c.args.parts.now) c.in_ok-items.items.items = search rules in
    IfOk-weaker c.report.result _ (λ _. AreTested (arc_value c.args.program.now) c.args.search
    c.args.parts.now) (λ r _. record {
      schedules = subst (λ (q : Program). All (IsTrue q) c.args.parts.now) c.deref.ensures
          c.in_ok-check_schedules.ensures.all;
      agree = λ place a. c.in_ok-check_agreement.ensures.agree place
          (subst (λ (ps : List Part). AreApart ps place) (sym c.in_ok-by_prefix.ensures) a);
      items = c.in_ok-items.items.items;
      cover = cover;
    }) c.report.ensures.report
