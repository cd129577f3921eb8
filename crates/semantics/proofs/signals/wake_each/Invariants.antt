use Rattle.std.proofs.Common.{◌≡◌, length, drop}
use Rattle.semantics.specs.Machine.{wake}
use Rattle.semantics.proofs.signals.wake_each.Given as goal

abbrev pub invariant-loop-u : goal.invariant-loop-u
invariant-loop-u l = record {
  long : length l.threads ≡ length l.initial.threads;
  rest : wake l.fn.condition (drop l.u-index l.threads_to_wake) l.threads
      ≡ wake l.fn.condition l.threads_to_wake l.initial.threads;
}
