use Rattle.semantics_schedules.proofs.ScheduleLengths.{schedule_short}
use Rattle.semantics_schedules.proofs.laws.schedules.schedules_are_short.Goals as goal

pub returns : goal.returns
returns c = schedule_short
