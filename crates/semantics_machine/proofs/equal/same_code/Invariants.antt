use Rattle.std.proofs.Common.{◌≡◌, ◌<◌, ℕ, length, get_or}
use Rattle.semantics.specs.Mask.{no_threads}
use Rattle.semantics_machine.specs.Refinement.{HasSameCode}
use Rattle.semantics_machine.proofs.equal.same_code.Given as goal

abbrev pub invariant-loop-thread : goal.invariant-loop-thread
invariant-loop-thread l = record {
  each : (t : ℕ) → t < l.thread → HasSameCode l.program t (get_or l.lower t no_threads);
  long : length l.lower ≡ 16;
}
