use Rattle.semantics.proofs.VariableSteps.{add_local, add_value}
use Rattle.semantics.proofs.laws.steps.adds_are_atomic.Goals as goal

pub returns : goal.returns
returns c = record { local = add_local; value = add_value }
