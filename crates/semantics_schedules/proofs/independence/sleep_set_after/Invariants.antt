use Rattle.std.proofs.Common.{◌≡◌, ◌<◌, ◌≤◌, ◌-◌, ◌^◌, ℕ, false}
use Rattle.guest_code.specs.declared.limits.TheConstants.{THREADS}
use Rattle.semantics.specs.Mask.{has}
use Rattle.semantics_schedules.specs.Sleep.{next_sleep_set}
use Rattle.semantics_schedules.proofs.independence.sleep_set_after.Given as goal

abbrev pub invariant-loop-other : goal.invariant-loop-other
invariant-loop-other l = record {
  fits : l.sleepers.bits < 2 ^ 16;
  near : l.from ≤ THREADS;
  below : (v : ℕ) → v < l.from → has l.sleepers v
      ≡ next_sleep_set l.program l.state (has l.asleep) l.thread v;
  above : (v : ℕ) → l.from ≤ v → has l.sleepers v ≡ false;
}

abbrev pub decreases-loop-other : goal.decreases-loop-other
decreases-loop-other l = THREADS - l.from
