use Rattle.semantics_schedules.proofs.CompleteSchedulesUnfold.{complete_schedules-unfold}
use Rattle.semantics_schedules.proofs.laws.schedules.complete_schedules_unfold.Goals as goal

pub returns : goal.returns
returns c = complete_schedules-unfold
