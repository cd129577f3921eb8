use Rattle.semantics_schedules.proofs.SchedulesUnderPrefix.{over_nobody}
use Rattle.semantics_schedules.proofs.laws.schedules.terminal_means_none_enabled.Goals as goal

pub returns : goal.returns
returns c = over_nobody
