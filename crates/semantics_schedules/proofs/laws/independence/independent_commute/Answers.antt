use Rattle.semantics_schedules.proofs.IndependentStepsCommute.{commute}
use Rattle.semantics_schedules.proofs.laws.independence.independent_commute.Goals as goal

pub returns : goal.returns
returns c = commute
