use Rattle.std.proofs.Common.{◌≡◌, ◌≢◌, ◌<◌, ◌^◌, ◌&&◌, ◌||◌, ℕ, nat_lt, length, true, false}
use Rattle.semantics.specs.{Machine.{Snapshot, is_enabled}, Mask.{has, members_from}}
use Rattle.semantics_schedules.specs.Sleep.{next_sleep_set}
use Rattle.semantics_machine.specs.Refinement.{Shows}
use Rattle.semantics_machine.proofs.machine.Machine.sleep_set_after.Given as goal

abbrev pub invariant-loop-other : goal.invariant-loop-other
invariant-loop-other l = record {
  fits : l.sleepers.bits < 2 ^ 16;
  tried : (v : ℕ) → has l.left v ≡ true → (l.thread ≢ v)
      × ((has l.self.control.enabled v && (has l.fn.asleep v || nat_lt v l.thread)) ≡ true);
  kept : (v : ℕ) → has l.left v ≡ true → has l.sleepers v ≡ true;
  over : (s : Snapshot) → Shows l._program l.self s → is_enabled l._program s l.thread ≡ true
      → (v : ℕ) → has l.left v ≡ false
      → has l.sleepers v ≡ next_sleep_set l._program s (has l.fn.asleep) l.thread v;
}

abbrev pub decreases-loop-other : goal.decreases-loop-other
decreases-loop-other l = length (members_from l.left 0)
