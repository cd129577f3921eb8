use Rattle.std.proofs.Common.{◌≡◌, ◌<◌, ℕ, get_or, false}
use Rattle.semantics.specs.Mask.{has, no_threads}
use Rattle.semantics_machine.proofs.equal.with_some.Given as goal

abbrev pub invariant-loop-thread : goal.invariant-loop-thread
invariant-loop-thread l = (t u : ℕ) → t < l.thread → has l.some t ≡ false → u < 16
    → has (get_or l.sets t no_threads) u ≡ false
