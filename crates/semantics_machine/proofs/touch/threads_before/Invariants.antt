use Rattle.std.proofs.Common.{◌≡◌, ◌<◌, ℕ, nat_lt, length, get_or}
use Rattle.semantics.specs.Mask.{has, no_threads}
use Rattle.semantics_machine.proofs.touch.threads_before.Given as goal

abbrev pub invariant-loop-t : goal.invariant-loop-t
invariant-loop-t l = record {
  each : (t u : ℕ) → t < l.t → has (get_or l.before t no_threads) u ≡ nat_lt u t;
  long : length l.before ≡ 16;
}
