use Rattle.std.proofs.Common.{◌≡◌, ◌<◌, length, All}
use Rattle.std.specs.List.{filter}
use Rattle.semantics.specs.{Ends.is_stopped, Machine.thread_at, Work.up_from}
use Rattle.replay.proofs.run.stopped_threads.Given as goal

abbrev pub invariant-loop-t : goal.invariant-loop-t
invariant-loop-t l = record {
  value : l.stopped.items ≡ filter (λ t. is_stopped (thread_at l.state t).status) (up_from 0 l.t);
  fine : All (λ t. t < length l.program.threads) l.stopped.items;
}
