use Rattle.semantics.proofs.QueueSteps.{first_woken, signal_queue, others_wait_on, none_woken}
use Rattle.semantics.proofs.laws.steps.signals_wake_the_first.Goals as goal

pub returns : goal.returns
returns c = record {
  woken = first_woken;
  queue = signal_queue;
  others = others_wait_on;
  nobody = none_woken;
}
