use Rattle.semantics_schedules.proofs.LeastSchedule.{least_none, least_some}
use Rattle.semantics_schedules.proofs.laws.order.least_is_minimal.Goals as goal

pub returns : goal.returns
returns c = record { none = least_none; some = least_some }
