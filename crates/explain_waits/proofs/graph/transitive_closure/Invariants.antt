use Rattle.explain_waits.{specs.Graph.IsIn, proofs.Closures.AreThrough}
use Rattle.explain_waits.proofs.graph.transitive_closure.Given as goal

abbrev pub invariant-loop-k : goal.invariant-loop-k
invariant-loop-k l = AreThrough (IsIn l.fn.edges) l.k l.rows
