use Rattle.semantics.proofs.VariableSteps.{store_value, store_others, store_thread}
use Rattle.semantics.proofs.laws.steps.stores_write.Goals as goal

pub returns : goal.returns
returns c = record { value = store_value; others = store_others; thread = store_thread }
