use Rattle.std.proofs.Common.{◌≡◌, ℕ, ◌<◌, ◌≤◌}
use Rattle.std.specs.Prelude.{false, not, ◌||◌, ◌&&◌, slice_index_or}
use Rattle.explain_cause.specs.Events.{reads, writes}
use Rattle.explain_cause.proofs.backward_slice.update_read.Given as goal

abbrev pub invariant-loop-x : goal.invariant-loop-x
invariant-loop-x l = record {
  done : (k : ℕ) → k < l.x → slice_index_or l.read k false
      ≡ ((l.needed && reads k l.fn.event)
      || (not (writes k l.fn.event) && slice_index_or l.fn.read k false));
  rest : (k : ℕ) → l.x ≤ k → slice_index_or l.read k false ≡ slice_index_or l.fn.read k false;
}
