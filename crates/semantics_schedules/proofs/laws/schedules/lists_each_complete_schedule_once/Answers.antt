use Rattle.semantics_schedules.proofs.CompleteSchedulesRise.{all_once}
use Rattle.semantics_schedules.proofs.laws.schedules.lists_each_complete_schedule_once.Goals as goal

pub returns : goal.returns
returns c = all_once
