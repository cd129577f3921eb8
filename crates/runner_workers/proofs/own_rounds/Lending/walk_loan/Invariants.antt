use Rattle.std.proofs.Common.{◌≡◌}
use Rattle.book.specs.ItemLists.{all_of}
use Rattle.runner_workers.proofs.Lent.{HaveWalked}
use Rattle.runner_workers.proofs.own_rounds.Lending.walk_loan.Given as goal

abbrev pub invariant-loop-place : goal.invariant-loop-place
invariant-loop-place g l =
    let p = g.N.SearchBrand.of.program in
    record {
      walker : l.worker.walker ≡ p;
      walked : HaveWalked p g.N.SearchBrand.mode (all_of p l.loan) l.self.quota l.place l.worker.found;
    }
