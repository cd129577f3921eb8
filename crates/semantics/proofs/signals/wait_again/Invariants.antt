use Rattle.std.proofs.Common.{◌≡◌, length, drop}
use Rattle.semantics.specs.Undoing.{waiting_again}
use Rattle.semantics.proofs.signals.wait_again.Given as goal

abbrev pub invariant-loop-u : goal.invariant-loop-u
invariant-loop-u l = record {
  long : length l.threads ≡ length l.initial.threads;
  rest : waiting_again l.fn.condition (drop l.u-index l.waiting) l.threads
      ≡ waiting_again l.fn.condition l.waiting l.initial.threads;
}
