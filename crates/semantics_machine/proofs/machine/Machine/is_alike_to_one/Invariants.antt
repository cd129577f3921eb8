use Rattle.std.proofs.Common.{◌≡◌, ◌≢◌, ℕ, length, true, false}
use Rattle.semantics.specs.{Machine.Snapshot, Mask.{has, members_from}}
use Rattle.semantics_schedules.specs.Renaming.{swapped, Renamed}
use Rattle.semantics_machine.specs.{Refinement.Shows, inner.Alike.IsAbout}
use Rattle.semantics_machine.proofs.machine.Machine.is_alike_to_one.Given as goal

abbrev pub invariant-loop-other : goal.invariant-loop-other
invariant-loop-other l = record {
  among : (u : ℕ) → has l.left u ≡ true → has l.fn.among u ≡ true;
  none : (s : Snapshot) → Shows l.program l.self s → IsAbout l.program s l.thread
      → ((u : ℕ) → has l.fn.among u ≡ true → (u ≢ l.thread) × IsAbout l.program s u)
      → (u : ℕ) → has l.fn.among u ≡ true → has l.left u ≡ false
      → Renamed (swapped u l.thread) s s → ⊥;
}

abbrev pub decreases-loop-other : goal.decreases-loop-other
decreases-loop-other l = length (members_from l.left 0)
