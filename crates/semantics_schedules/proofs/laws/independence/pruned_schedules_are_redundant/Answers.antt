use Rattle.semantics_schedules.proofs.StatedLaws.{keeps}
use Rattle.semantics_schedules.proofs.laws.independence.pruned_schedules_are_redundant.Goals as goal

pub returns : goal.returns
returns c = keeps
