use Rattle.semantics.proofs.MutexSteps.{wait_frees, wait_waits, wait_joins, wait_leaves, wait_leaves_queue, wait_stops}
use Rattle.semantics.proofs.laws.steps.owners_alone_wait.Goals as goal

pub returns : goal.returns
returns c = record {
  frees = wait_frees;
  waits = wait_waits;
  joins = wait_joins;
  leaves = wait_leaves;
  leaves_queue = wait_leaves_queue;
  stops = wait_stops;
}
