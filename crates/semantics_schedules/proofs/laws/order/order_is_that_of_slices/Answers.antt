use Rattle.semantics_schedules.proofs.LeastSchedule.{slices_order}
use Rattle.semantics_schedules.proofs.laws.order.order_is_that_of_slices.Goals as goal

pub returns : goal.returns
returns c = slices_order
