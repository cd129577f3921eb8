use Rattle.std.proofs.Common.{ℕ, ◌<◌}
use Rattle.std.specs.Prelude.{◌↔◌, IsTrue}
use Rattle.semantics.specs.Mask.{has}
use Rattle.explain_waits.specs.Graph.{IsIn}
use Rattle.explain_waits.proofs.graph.circle_of.Given as goal

abbrev pub invariant-loop-u : goal.invariant-loop-u
invariant-loop-u l = (v : ℕ) → IsTrue (has l.circle v)
    ↔ ((v < l.u) × (IsIn l.rows l.thread v × IsIn l.rows v l.thread))
