use Rattle.std.specs.Prelude.{false}
use Rattle.std.proofs.Common.{◌≡◌}
use Rattle.explain_cause.specs.{Causes.any_below, inner.Keeping.passes_in}
use Rattle.explain_cause.proofs.backward_slice.BackwardSlice.passes_read.Given as goal

abbrev pub invariant-loop-variable : goal.invariant-loop-variable
invariant-loop-variable l = any_below (passes_in l.program l.self l.event) l.variable ≡ false
