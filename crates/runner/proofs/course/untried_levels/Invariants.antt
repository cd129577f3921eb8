use Rattle.std.proofs.Common.{◌≤◌}
use Rattle.semantics_schedules.specs.Schedules.{preemptions}
use Rattle.walk_items.specs.{Items.{ItemView, IsItem}, declared.mode.Mode.TheVariants.Bounded}
use Rattle.runner.specs.Levels.{AreBelow}
use Rattle.runner.proofs.course.untried_levels.Given as goal

abbrev pub invariant-loop-bound : goal.invariant-loop-bound
invariant-loop-bound l = (i : ItemView) → IsItem i → l.end ≤ preemptions i.program i.prefix →
    AreBelow i (Bounded l.bound) l.levels.items
