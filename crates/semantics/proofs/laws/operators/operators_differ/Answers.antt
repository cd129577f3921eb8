use Rattle.semantics.proofs.OperatorValues.{operators_differ}
use Rattle.semantics.proofs.laws.operators.operators_differ.Goals as goal

pub returns : goal.returns
returns c = operators_differ
