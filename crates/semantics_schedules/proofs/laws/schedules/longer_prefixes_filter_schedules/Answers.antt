use Rattle.semantics_schedules.proofs.SchedulesUnderPrefix.{schedules_under-longer, schedules_within-longer}
use Rattle.semantics_schedules.proofs.laws.schedules.longer_prefixes_filter_schedules.Goals as goal

pub returns : goal.returns
returns c = record { under = schedules_under-longer; within = schedules_within-longer }
