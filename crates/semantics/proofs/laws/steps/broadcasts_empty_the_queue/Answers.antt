use Rattle.semantics.proofs.QueueSteps.{broadcast_queue}
use Rattle.semantics.proofs.laws.steps.broadcasts_empty_the_queue.Goals as goal

pub returns : goal.returns
returns c = broadcast_queue
