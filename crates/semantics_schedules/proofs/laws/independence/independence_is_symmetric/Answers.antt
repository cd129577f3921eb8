use Rattle.semantics_schedules.proofs.IndependentStepsCommute.{independent-swap}
use Rattle.semantics_schedules.proofs.DependentSteps.{independent-itself, independent-none}
use Rattle.semantics_schedules.proofs.laws.independence.independence_is_symmetric.Goals as goal

pub returns : goal.returns
returns c = record {
  either_order = independent-swap;
  itself = independent-itself;
  none = independent-none;
}
