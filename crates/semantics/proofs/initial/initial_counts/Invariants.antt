use Rattle.std.proofs.Common.{◌≡◌, map, take, ◌≤◌, All}
use Rattle.guest_code.specs.declared.limits.TheConstants.{COUNT}
use Rattle.semantics.proofs.initial.initial_counts.Given as goal

abbrev pub invariant-loop-k : goal.invariant-loop-k
invariant-loop-k l = record {
  counts : l.counts.items ≡ map (λ k. k.count) (take l.k l.program.semaphores);
  full : All (λ n. n ≤ COUNT) l.counts.items;
}
