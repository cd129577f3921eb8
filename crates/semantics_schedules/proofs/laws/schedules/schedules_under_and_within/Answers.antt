use Rattle.semantics_schedules.proofs.SchedulesUnderPrefix.{in_under, in_within, beyond_is}
use Rattle.semantics_schedules.proofs.laws.schedules.schedules_under_and_within.Goals as goal

pub returns : goal.returns
returns c = record { under = in_under; within = in_within; beyond = beyond_is }
