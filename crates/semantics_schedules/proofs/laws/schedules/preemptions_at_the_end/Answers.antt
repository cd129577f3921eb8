use Rattle.std.proofs.Common.{refl}
use Rattle.semantics_schedules.proofs.PrefixesExtend.{push_switch, push_blocked, push_same}
use Rattle.semantics_schedules.proofs.laws.schedules.preemptions_at_the_end.Goals as goal

pub returns : goal.returns
returns c = record {
  none = λ p. refl;
  first = λ p u. refl;
  preempting = push_switch;
  blocked = push_blocked;
  same = push_same;
}
