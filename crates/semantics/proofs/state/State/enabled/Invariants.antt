use Rattle.std.proofs.Common.{◌≡◌, ℕ, ◌<◌, ◌≤◌, false}
use Rattle.semantics.specs.{Machine.is_enabled, Mask.has}
use Rattle.semantics.proofs.state.State.enabled.Given as goal

abbrev pub invariant-loop-t : goal.invariant-loop-t
invariant-loop-t l = record {
  below : (k : ℕ) → k < l.t → has l.mask k ≡ is_enabled l.program l.self k;
  above : (k : ℕ) → l.t ≤ k → has l.mask k ≡ false;
}
