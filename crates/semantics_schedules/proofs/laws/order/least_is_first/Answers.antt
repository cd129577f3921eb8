use Rattle.semantics_schedules.proofs.LeastSchedule.{least_of_rising, least_bad_first}
use Rattle.semantics_schedules.proofs.laws.order.least_is_first.Goals as goal

pub returns : goal.returns
returns c = record { rising = least_of_rising; bad = least_bad_first }
