use Rattle.semantics_schedules.proofs.PrunedAwayRun.{three_complete, their_preemptions, their_kinds, two_kept, one_within}
use Rattle.semantics_schedules.proofs.laws.worked.pruning_within_a_bound_loses_a_failure.Goals as goal

pub returns : goal.returns
returns c = record {
  complete = three_complete;
  preemptions = their_preemptions;
  kinds = their_kinds;
  reduced = two_kept;
  within = one_within;
}
