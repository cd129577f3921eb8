use Rattle.semantics_schedules.proofs.CompleteSchedulesRise.{all_rise}
use Rattle.semantics_schedules.proofs.laws.schedules.complete_schedules_rise.Goals as goal

pub returns : goal.returns
returns c = all_rise
