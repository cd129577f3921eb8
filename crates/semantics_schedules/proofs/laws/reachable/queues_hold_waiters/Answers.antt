use Rattle.semantics_schedules.proofs.RunsKeepStates.{queues_hold}
use Rattle.semantics_schedules.proofs.laws.reachable.queues_hold_waiters.Goals as goal

pub returns : goal.returns
returns c = queues_hold
