use Rattle.semantics.proofs.QueueSteps.{release_count, release_thread, full_count, full_stops}
use Rattle.semantics.proofs.laws.steps.releases_raise_the_count.Goals as goal

pub returns : goal.returns
returns c = record {
  count = release_count;
  thread = release_thread;
  full = full_count;
  stops = full_stops;
}
