use Rattle.semantics.proofs.QueuesHoldWaiters.{called_wake}
use Rattle.semantics.proofs.laws.steps.threads_to_wake_are_woken.Goals as goal

pub returns : goal.returns
returns c = called_wake
