use Rattle.semantics.proofs.QueueSteps.{acquire_enabled, acquire_count, acquire_thread}
use Rattle.semantics.proofs.laws.steps.acquires_lower_the_count.Goals as goal

pub returns : goal.returns
returns c = record { enabled = acquire_enabled; count = acquire_count; thread = acquire_thread }
