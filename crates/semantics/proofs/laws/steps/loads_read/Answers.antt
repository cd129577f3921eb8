use Rattle.semantics.proofs.VariableSteps.{load_local, load_variables}
use Rattle.semantics.proofs.laws.steps.loads_read.Goals as goal

pub returns : goal.returns
returns c = record { local = load_local; variables = load_variables }
