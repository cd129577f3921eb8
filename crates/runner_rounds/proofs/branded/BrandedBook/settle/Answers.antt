use Rattle.std.proofs.Common.{◌≡◌, ◌⊎◌, ◌∙◌, true, false, Ok, inl, inr, ap, sym, subst}
use Rattle.walk_items.specs.Items.{ItemView, AreOf}
use Rattle.book.specs.Books.{HaveSettled, AreNotTaken}
use Rattle.runner_rounds.proofs.Kept.{found_in, kept_of}
use Rattle.runner_rounds.proofs.branded.BrandedBook.settle.Goals as goal

pub settle_all-settled-requires-clause-program : goal.settle_all-settled-requires-clause-program
settle_all-settled-requires-clause-program g c =
    subst (λ (i : ItemView). AreOf i.program c.as_slice-items.result.now) (sym c.self.invariant.of)
    (subst (AreOf g.N.SearchBrand.of.program) (sym c.as_slice-items.ensures.value)
    c.requires.round.items)

pub settle_all-settled-requires-clause-walked : goal.settle_all-settled-requires-clause-walked
settle_all-settled-requires-clause-walked g c =
    let b = c.self.inside.book in
    let of = c.self.invariant in
    let round = c.args.round.now in
    let worker = c.args.worker.now in
    found_in worker.walker b.of.program round.mode b.mode round.items.items
    c.as_slice-items.result.now worker.places.items c.as_slice-places.result.now worker.found
    (ap (λ (i : ItemView). i.program) of.of ∙ sym c.requires.walker)
    (of.mode ∙ sym c.requires.round.mode)
    c.as_slice-items.ensures.value c.as_slice-places.ensures.value c.requires.kept.found

pub invariant_of-self : goal.invariant_of-self
invariant_of-self g c =
    let b = c.self.inside.book in
    let of = c.self.invariant in
    let round = c.args.round.now in
    let worker = c.args.worker.now in
    let found = found_in worker.walker b.of.program round.mode b.mode round.items.items
    c.as_slice-items.result.now worker.places.items c.as_slice-places.result.now worker.found
    (ap (λ (i : ItemView). i.program) of.of ∙ sym c.requires.walker)
    (of.mode ∙ sym c.requires.round.mode)
    c.as_slice-items.ensures.value c.as_slice-places.ensures.value c.requires.kept.found in
    kept_of g.N.SearchBrand.of g.N.SearchBrand.mode g.N.SearchBrand.quick
    g.N.SearchBrand.lists found.walks b c.settle_all-settled.new.self c.settle_all-settled.result of
    (c.settle_all-settled.ensures.taken found) c.settle_all-settled.ensures.same

pub invariant_of-self-2 : goal.invariant_of-self-2
invariant_of-self-2 g c =
    let b = c.self.inside.book in
    let of = c.self.invariant in
    let round = c.args.round.now in
    let worker = c.args.worker.now in
    let found = found_in worker.walker b.of.program round.mode b.mode round.items.items
    c.as_slice-items.result.now worker.places.items c.as_slice-places.result.now worker.found
    (ap (λ (i : ItemView). i.program) of.of ∙ sym c.requires.walker)
    (of.mode ∙ sym c.requires.round.mode)
    c.as_slice-items.ensures.value c.as_slice-places.ensures.value c.requires.kept.found in
    kept_of g.N.SearchBrand.of g.N.SearchBrand.mode g.N.SearchBrand.quick
    g.N.SearchBrand.lists found.walks b c.settle_all-settled.new.self c.settle_all-settled.result of
    (c.settle_all-settled.ensures.taken found) c.settle_all-settled.ensures.same

pub returns-clause-settled : goal.returns-clause-settled
returns-clause-settled g c = λ f.
    let old = c.args.self.now in
    let b = c.self.inside.book in
    let of = c.self.invariant in
    let round = c.args.round.now in
    let worker = c.args.worker.now in
    let again = found_in g.N.SearchBrand.of.program b.of.program g.N.SearchBrand.mode b.mode
    round.items.items c.as_slice-items.result.now worker.places.items c.as_slice-places.result.now
    worker.found (ap (λ (i : ItemView). i.program) of.of) of.mode c.as_slice-items.ensures.value
    c.as_slice-places.ensures.value f in
    elim c.in_ok-_is_taken._is_taken as (λ taken. c.settle_all-settled.result ≡ Ok taken
    → HaveSettled old f.walks c.settle_all-settled.new.self
    ⊎ ((c.settle_all-settled.new.self ≡ old)
    × AreNotTaken old round.items.items worker.places.items worker.found)) [
      | true ↦ λ e. inl (subst (λ z. HaveSettled z f.walks c.settle_all-settled.new.self)
          c.self.view_is (c.settle_all-settled.ensures.taken again e))
      | false ↦ λ e. inr (
        c.settle_all-settled.ensures.same (λ taken. let no : Ok false ≡ Ok true = sym e ∙ taken in
            cc) ∙ c.self.view_is,
        subst (λ z. AreNotTaken z round.items.items worker.places.items worker.found)
            c.self.view_is (subst (λ ks. AreNotTaken b round.items.items ks worker.found)
            c.as_slice-places.ensures.value
            (subst (λ is. AreNotTaken b is c.as_slice-places.result.now worker.found)
            c.as_slice-items.ensures.value (c.settle_all-settled.ensures.not_taken e))),
      )
    ] c.in_ok-_is_taken.was
