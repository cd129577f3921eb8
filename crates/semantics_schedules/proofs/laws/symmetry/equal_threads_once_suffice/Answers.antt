use Rattle.semantics_schedules.proofs.EqualThreadsOnce.{once_represents_reduced, once_represents_within}
use Rattle.semantics_schedules.proofs.laws.symmetry.equal_threads_once_suffice.Goals as goal

pub returns : goal.returns
returns c = record { unbounded = once_represents_reduced; within = once_represents_within }
