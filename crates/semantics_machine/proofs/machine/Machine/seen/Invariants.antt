use Rattle.std.proofs.Common.{◌≡◌, ◌<◌, ◌^◌, ◌&&◌, ℕ, length, true, false, not}
use Rattle.semantics.specs.{Machine.Snapshot, Mask.{HasEnabled, has, members_from}}
use Rattle.semantics_schedules.specs.EqualThreads.{is_hidden}
use Rattle.semantics_machine.specs.Refinement.{Shows}
use Rattle.semantics_machine.proofs.machine.Machine.seen.Given as goal

abbrev pub invariant-loop-thread : goal.invariant-loop-thread
invariant-loop-thread l = record {
  fits : l.left.bits < 2 ^ 16;
  asked : (t : ℕ) → has l.left t ≡ true → (has l.others t ≡ true) × (has l.fn.asked t ≡ true);
  over : (s : Snapshot) → Shows l.program l.self s → HasEnabled l.fn.enabled l.program s
      → (t : ℕ) → has l.left t ≡ false
      → has l.seen t ≡ (has l.fn.asked t && not (is_hidden l.program s l.fn.last t));
}

abbrev pub decreases-loop-thread : goal.decreases-loop-thread
decreases-loop-thread l = length (members_from l.left 0)
