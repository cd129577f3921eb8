use Rattle.std.proofs.Common.{◌≡◌, ℕ, ◌<◌, length}
use Rattle.std.specs.Prelude.{◌↔◌}
use Rattle.guest_code.specs.declared.limits.TheConstants.{THREADS}
use Rattle.explain_waits.specs.Graph.{IsIn, WaitsFor}
use Rattle.explain_waits.proofs.wait.wait_for_graph.Given as goal

abbrev pub invariant-loop-t : goal.invariant-loop-t
invariant-loop-t l = record {
  length : length l.edges ≡ THREADS;
  edges : (t u : ℕ) → IsIn l.edges t u ↔ ((t < l.t) × WaitsFor l.program l.told t u);
}
