use Rattle.std.proofs.Common.{◌≡◌, ◌++◌, ◌-◌, drop, length}
use Rattle.explain_run.specs.Settings.{settings_in}
use Rattle.explain_run.proofs.assignments.run_and_push_assignments.Given as goal

abbrev pub invariant-loop-next : goal.invariant-loop-next
invariant-loop-next l =
    l.assignments.items ++ settings_in (drop l.at l.code) l.at 0 l.locals
    ≡ l.fn.assignments.items ++ settings_in (drop l.fn.from l.code) l.fn.from 0 l.fn.locals

abbrev pub decreases-loop-next : goal.decreases-loop-next
decreases-loop-next l = length l.code - l.at
