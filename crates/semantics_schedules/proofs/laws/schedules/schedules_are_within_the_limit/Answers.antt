use Rattle.std.proofs.Common.{refl}
use Rattle.semantics_schedules.proofs.ScheduleLengths.{schedule_within}
use Rattle.semantics_schedules.proofs.laws.schedules.schedules_are_within_the_limit.Goals as goal

pub returns : goal.returns
returns c = record { limit = refl; within = schedule_within }
