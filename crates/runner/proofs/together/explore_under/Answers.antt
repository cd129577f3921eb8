use Rattle.std.proofs.Common.{◌<◌, subst, sym, true, arith}
use Rattle.std.proofs.lemmas.Result.{IfOk-weaker}
use Rattle.semantics_schedules.specs.Schedules.{preemptions}
use Rattle.walk_items.specs.Items.{ItemView}
use Rattle.runner_report.specs.declared.options.Options.{Options}
use Rattle.runner.specs.{Levels.AreLevels, inner.Judging.Ends}
use Rattle.runner.proofs.AfterRounds.{course_at, course_itself, ended_at, plainly}
use Rattle.runner.proofs.Judgments.{past_levels_end}
use Rattle.runner.proofs.together.explore_under.Goals as goal

pub search-requires-clause-at : goal.search-requires-clause-at
search-requires-clause-at g c = λ k l.
    course_at c.args.item (plainly c.args.options) true c.in_ok-course.course
    c.in_ok-course.ensures.course

pub levels_at_end-requires-clause-course : goal.levels_at_end-requires-clause-course
levels_at_end-requires-clause-course g c =
    let both = ended_at c.args.item (plainly c.args.options) true
    (g.G.Gate.stops c.args.gate.now) c.in_ok-course.course
    (c.in_ok-course-2.course, c.in_ok-course-2.ending) c.in_ok-course.ensures.course
    c.in_ok-course-2.ensures.ended in
    course_itself c.args.item (plainly c.args.options) true c.in_ok-course-2.course both.0

pub returns-in-Some-clause-levels : goal.returns-in-Some-clause-levels
returns-in-Some-clause-levels g c =
    let i = c.args.item in
    let o = c.args.options in
    let end = c.in-Some.last in
    let past = c.in-Some.ensures.past in
    let number = c.in_ok-preemptions.ensures.number in
    let runs = c.preemptions_of.ensures.runs in
    let low : end < preemptions i.program i.prefix =
    let l = past.1 in omega (arith, l, number) in
    past_levels_end (g.G.Gate.stops c.args.gate.now) o.search o.limit i end
    c.in_ok-levels.levels.items c.push.new.self.items c.untried_level.result runs past.0 low
    (c.in_ok-levels.ensures.levels i runs (omega (arith, low))) c.untried_level.ensures
    c.in_ok-push.ensures.items

pub returns-clause-levels : goal.returns-clause-levels
returns-clause-levels g c =
    let o = plainly c.args.options in
    let may = g.G.Gate.stops c.args.gate.now in
    let r = c.in_ok-course-2.course in
    let both = ended_at c.args.item o true may c.in_ok-course.course
    (r, c.in_ok-course-2.ending) c.in_ok-course.ensures.course c.in_ok-course-2.ensures.ended in
    IfOk-weaker c.levels_at_end.result _ _ (λ v are.
    subst (λ (x : ItemView). AreLevels may o.search o.limit x v.items) both.0.at.is.of
    (subst (λ (x : Options). AreLevels may x.search x.limit r.book.of v.items) both.0.options
    (are may (subst (λ (x : Options). Ends may x r.book c.in_ok-course-2.ending)
    (sym both.0.options) both.1)))) c.levels_at_end.ensures.levels
