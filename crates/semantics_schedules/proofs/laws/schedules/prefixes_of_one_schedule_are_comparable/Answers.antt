use Rattle.semantics_schedules.proofs.SchedulesUnderPrefix.{begin_both}
use Rattle.semantics_schedules.proofs.laws.schedules.prefixes_of_one_schedule_are_comparable.Goals as goal

pub returns : goal.returns
returns c = begin_both
