use Rattle.std.proofs.Common.{◌+◌, List, sym, subst, arith}
use Rattle.walk_items.specs.declared.mode.Mode.TheVariants.{Bounded}
use Rattle.runner_report.specs.declared.level.Level.{Level}
use Rattle.runner.{specs.Levels.AreBelow, proofs.AfterRounds.{one_more_below, past_level}}
use Rattle.runner.proofs.course.untried_levels.Goals as goal

pub loop-bound-preserved : goal.loop-bound-preserved
loop-bound-preserved c i h le =
    let bound = c.loop-bound.bound in
    let below = c.loop-bound-test.true in
    subst (AreBelow i (Bounded (bound + 1))) (sym {A = List Level} c.in_ok-push.ensures.items)
    (one_more_below i bound c.loop-bound.levels.items c.untried_level.result
    (c.loop-bound.invariant i h le)
    (past_level i bound c.untried_level.result h (omega (arith, le, below))
    c.untried_level.ensures))
