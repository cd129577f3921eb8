use Rattle.semantics_schedules.proofs.SleepSets.{reduced_schedules-terminal, reduced_schedules-more}
use Rattle.semantics_schedules.proofs.laws.independence.reduced_schedules_unfold.Goals as goal

pub returns : goal.returns
returns c = record { terminal = reduced_schedules-terminal; more = reduced_schedules-more }
