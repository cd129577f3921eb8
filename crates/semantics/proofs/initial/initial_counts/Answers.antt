use Rattle.std.specs.Prelude.{All}
use Rattle.std.proofs.Common.{arith, ◌≤◌, sym, subst}
use Rattle.std.proofs.lemmas.List.Elements.{All-push}
use Rattle.guest_code.specs.{Program.no_semaphore, declared.limits.TheConstants.COUNT}
use Rattle.semantics.proofs.ListsBuiltInLoops.{built_more, built_all}
use Rattle.semantics.proofs.initial.initial_counts.Goals as goal

pub loop-k-preserved : goal.loop-k-preserved
loop-k-preserved c = record {
  counts = built_more (λ k. k.count) c.args.program.now.semaphores c.loop-k.k no_semaphore
      c.loop-k.counts.items _ c.initial_count.result (omega arith) c.loop-k.invariant.counts
      c.initial_count.ensures.count c.in_ok-push.ensures.items;
  full = subst (All (λ n. n ≤ COUNT)) (sym c.in_ok-push.ensures.items)
      (All-push (λ n. n ≤ COUNT) c.loop-k.counts.items c.initial_count.result
      c.loop-k.invariant.full c.initial_count.ensures.few);
}

pub returns-clause-counts : goal.returns-clause-counts
returns-clause-counts c = built_all (λ k. k.count) c.args.program.now.semaphores c.loop-k.k
    c.loop-k.counts.items c.loop-k.invariant.counts (omega arith)
