use Rattle.std.proofs.Common.{◌≡◌, ℕ, ◌<◌, ◌≤◌}
use Rattle.std.specs.Prelude.{◌&&◌, ◌||◌}
use Rattle.semantics.specs.Mask.{has}
use Rattle.explain_waits.specs.Graph.{row}
use Rattle.explain_waits.proofs.graph.extend_through.Given as goal

abbrev pub invariant-loop-t : goal.invariant-loop-t
invariant-loop-t l = record {
  passed : (t u : ℕ) → t < l.t → has (row l.rows t) u
      ≡ (has (row l.fn.rows t) u || (has (row l.fn.rows t) l.k && has (row l.fn.rows l.k) u));
  rest : (t : ℕ) → l.t ≤ t → row l.rows t ≡ row l.fn.rows t;
}
