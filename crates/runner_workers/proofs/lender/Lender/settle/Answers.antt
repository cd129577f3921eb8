use Rattle.std.proofs.Common.{◌≡◌, ap, length}
use Rattle.guest_code.specs.Program.{Program}
use Rattle.walk_items.specs.Items.{ItemView}
use Rattle.book.specs.{Books.places_from, ItemLists.all_of, Lending.as_book}
use Rattle.runner_rounds.proofs.Kept.{found_in, kept_of}
use Rattle.runner_workers.proofs.lender.Lender.settle.Goals as goal

pub invariant_of-self : goal.invariant_of-self
invariant_of-self g c =
    let b = c.args.self.now.book in
    let of = c.args.self.now.of in
    let loan = c.args.loan.now in
    let p = g.N.SearchBrand.of.program in
    let same : b.of.program ≡ p = ap (λ (i : ItemView). i.program) of.of in
    let found = found_in p b.of.program g.N.SearchBrand.mode b.mode (all_of p loan)
    (all_of b.of.program loan) (places_from 0 (length (all_of p loan)))
    (places_from 0 (length (all_of b.of.program loan))) c.args.worker.now.found same of.mode
    (ap (λ (q : Program). all_of q loan) same)
    (ap (λ (q : Program). places_from 0 (length (all_of q loan))) same) c.requires.walked in
    record {
      of = kept_of g.N.SearchBrand.of g.N.SearchBrand.mode g.N.SearchBrand.quick
          g.N.SearchBrand.lists found.walks (as_book b)
          (as_book c.settle-settled.new.self) c.settle-settled.result of
          (c.settle-settled.ensures.taken found)
          (λ no. ap as_book (c.settle-settled.ensures.same no));
    }
