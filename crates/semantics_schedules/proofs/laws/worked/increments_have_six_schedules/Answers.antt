use Rattle.semantics_schedules.proofs.IncrementsRun.{six_complete, their_preemptions, their_ends, four_kept, three_once, two_once}
use Rattle.semantics_schedules.proofs.laws.worked.increments_have_six_schedules.Goals as goal

pub returns : goal.returns
returns c = record {
  complete = six_complete;
  preemptions = their_preemptions;
  ends = their_ends;
  reduced = four_kept;
  once = three_once;
  last_hidden = two_once;
}
