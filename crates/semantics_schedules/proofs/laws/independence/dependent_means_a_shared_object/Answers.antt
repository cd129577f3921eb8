use Rattle.semantics_schedules.proofs.DependentSteps.{dependent_means, loads_are_independent}
use Rattle.semantics_schedules.proofs.laws.independence.dependent_means_a_shared_object.Goals as goal

pub returns : goal.returns
returns c = record { dependent = dependent_means; loads = loads_are_independent }
