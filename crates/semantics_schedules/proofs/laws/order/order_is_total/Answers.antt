use Rattle.semantics_schedules.proofs.LeastSchedule.{never_before_itself, before_later, either_first}
use Rattle.semantics_schedules.proofs.laws.order.order_is_total.Goals as goal

pub returns : goal.returns
returns c = record {
  never_itself = never_before_itself;
  later = before_later;
  either = either_first;
}
