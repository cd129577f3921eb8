use Rattle.std.specs.Prelude.{false}
use Rattle.std.proofs.Common.{◌≡◌}
use Rattle.explain_cause.specs.{Causes.any_below, inner.Keeping.is_missed_by_in}
use Rattle.explain_cause.proofs.backward_slice.BackwardSlice.interferes_with_some.Given as goal

abbrev pub invariant-loop-other : goal.invariant-loop-other
invariant-loop-other l =
    any_below (is_missed_by_in l.self l.thread l.variable) l.other ≡ false
