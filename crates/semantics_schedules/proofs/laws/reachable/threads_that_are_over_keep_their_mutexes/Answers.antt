use Rattle.semantics_schedules.proofs.RunsKeepStates.{over_keeps, over_stays}
use Rattle.semantics_schedules.proofs.laws.reachable.threads_that_are_over_keep_their_mutexes.Goals as goal

pub returns : goal.returns
returns c = record { mutexes = over_keeps; thread = over_stays }
