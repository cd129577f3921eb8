use Rattle.semantics.specs.Reachable.{IsOf}
use Rattle.tests_tools.proofs.runs.state_after.Given as goal

abbrev pub invariant-loop-thread : goal.invariant-loop-thread
invariant-loop-thread l = IsOf l.program l.state
