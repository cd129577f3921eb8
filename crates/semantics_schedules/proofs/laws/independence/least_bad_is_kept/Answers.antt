use Rattle.semantics_schedules.proofs.ReducedSchedules.{least_bad}
use Rattle.semantics_schedules.proofs.laws.independence.least_bad_is_kept.Goals as goal

pub returns : goal.returns
returns c = least_bad
