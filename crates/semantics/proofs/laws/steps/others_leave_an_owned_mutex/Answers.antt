use Rattle.semantics.proofs.MutexSteps.{owner_stays}
use Rattle.semantics.proofs.laws.steps.others_leave_an_owned_mutex.Goals as goal

pub returns : goal.returns
returns c = owner_stays
