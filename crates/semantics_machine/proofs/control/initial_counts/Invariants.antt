use Rattle.std.proofs.Common.{◌≡◌, ℕ, take, length, get_or}
use Rattle.semantics.specs.Machine.{start}
use Rattle.semantics_machine.proofs.control.initial_counts.Given as goal

abbrev pub invariant-loop-k : goal.invariant-loop-k
invariant-loop-k l = record {
  same : (j : ℕ) → get_or l.counts j 0 ≡ get_or (take l.k (start l.program).counts) j 0;
  long : length l.counts ≡ 8;
}
