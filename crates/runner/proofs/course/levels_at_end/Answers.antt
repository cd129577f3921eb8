use Rattle.std.proofs.Common.{◌∙◌, ap, true, Option, Vec, Global, subst}
use Rattle.runner_report.specs.declared.level.Level.{Level}
use Rattle.runner.{specs.inner.Judging.{AreKept, level_at}, proofs.Judgments.levels_end}
use Rattle.runner.proofs.course.levels_at_end.Goals as goal

pub returns-clause-levels : goal.returns-clause-levels
returns-clause-levels c may ends =
    let o = c.args.course.options in
    let b = c.args.course.book in
    let course = c.requires.course in
    let kept = subst (λ (x : Option (Vec Level Global)). AreKept true b.of b.mode x) c.in-Some.is
    course.levels in
    levels_end may o b c.args.ending c.in-Some.levels.items c.push.new.self.items c.in_ok-last.last
    c.in_ok-last.ensures.kept course.at c.requires.quick kept.1
    (c.in_ok-last.ensures.level ∙ ap (level_at b.mode b.finished) c.cause.ensures)
    c.in_ok-push-in-Some.ensures.items ends
