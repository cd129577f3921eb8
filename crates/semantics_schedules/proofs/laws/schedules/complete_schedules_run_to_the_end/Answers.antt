use Rattle.semantics_schedules.proofs.SchedulesUnderPrefix.{complete_is}
use Rattle.semantics_schedules.proofs.laws.schedules.complete_schedules_run_to_the_end.Goals as goal

pub returns : goal.returns
returns c = complete_is
