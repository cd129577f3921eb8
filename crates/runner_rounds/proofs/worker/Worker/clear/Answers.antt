use Rattle.std.proofs.Common.{◌≡◌, ap, sym, subst, arith}
use Rattle.book.{specs.Books.HaveFound, proofs.Gathered.none_found}
use Rattle.runner_rounds.proofs.worker.Worker.clear.Goals as goal

pub returns-clause-kept : goal.returns-clause-kept
returns-clause-kept c = λ r.
    let walker = c.clear.new.self in
    let found = c.clear.new.found in
    let tried : found.part.tried ≡ 0 = ap (λ s. s.tried) c.clear.ensures.part in
    record {
      found = subst (λ ks. HaveFound walker r.mode r.items.items ks found)
          (sym c.clear-2.ensures.items)
          (none_found walker r.mode r.items.items found c.clear.ensures.part c.clear.ensures.rest
          c.clear.ensures.deferred);
      few = omega (arith, tried);
    }
