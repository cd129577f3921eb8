use Rattle.semantics.specs.Reachable.{IsOf}
use Rattle.tests_walk.proofs.states.check_run.Given as goal

abbrev pub invariant-loop-t : goal.invariant-loop-t
invariant-loop-t g l = IsOf l.p l.state
