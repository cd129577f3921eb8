use Rattle.semantics_schedules.proofs.CompleteSchedulesRise.{all_prefix_free}
use Rattle.semantics_schedules.proofs.laws.schedules.none_begins_another.Goals as goal

pub returns : goal.returns
returns c = all_prefix_free
