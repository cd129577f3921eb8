use Rattle.std.proofs.Common.{refl}
use Rattle.semantics_schedules.proofs.PrefixesExtend.{last_of-push}
use Rattle.semantics_schedules.proofs.laws.schedules.last_is_of_the_last_step.Goals as goal

pub returns : goal.returns
returns c = record { none = refl; some = last_of-push }
