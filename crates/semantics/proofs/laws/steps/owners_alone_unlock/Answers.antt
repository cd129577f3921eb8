use Rattle.semantics.proofs.MutexSteps.{unlock_frees, unlock_runs_on, unlock_leaves, unlock_stops}
use Rattle.semantics.proofs.laws.steps.owners_alone_unlock.Goals as goal

pub returns : goal.returns
returns c = record {
  frees = unlock_frees;
  runs_on = unlock_runs_on;
  leaves = unlock_leaves;
  stops = unlock_stops;
}
