use Rattle.semantics.proofs.MutexSteps.{lock_enabled, lock_owns}
use Rattle.semantics.proofs.laws.steps.free_mutexes_are_taken.Goals as goal

pub returns : goal.returns
returns c = record { enabled = lock_enabled; owned = lock_owns }
