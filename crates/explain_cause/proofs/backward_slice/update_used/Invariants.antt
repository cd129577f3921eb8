use Rattle.std.proofs.Common.{◌≡◌, ℕ, ◌<◌, ◌≤◌}
use Rattle.std.specs.Prelude.{false, not, ◌||◌, ◌&&◌, slice_index_or}
use Rattle.check_lint.specs.Uses.{is, local_set, reads as uses_value}
use Rattle.explain_cause.proofs.backward_slice.update_used.Given as goal

abbrev pub invariant-loop-r : goal.invariant-loop-r
invariant-loop-r l = record {
  done : (k : ℕ) → k < l.r → slice_index_or l.used k false
      ≡ ((l.needed && uses_value k l.fn.event.statement)
      || (not (is k (local_set l.fn.event.statement)) && slice_index_or l.fn.used k false));
  rest : (k : ℕ) → l.r ≤ k → slice_index_or l.used k false ≡ slice_index_or l.fn.used k false;
}
