use Rattle.semantics_schedules.proofs.SchedulesUnderPrefix.{smaller_first}
use Rattle.semantics_schedules.proofs.laws.order.smaller_threads_come_first.Goals as goal

pub returns : goal.returns
returns c = smaller_first
