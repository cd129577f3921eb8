use Rattle.std.proofs.Common.{◌≡◌, ◌≤◌, ◌<◌, ◌∙◌, ℕ, List, [], length, slice_get, Some, refl, ap, sym, subst, arith}
use Rattle.std.{specs.List.remove, proofs.lemmas.List.Elements.{All-nil, All-cons}}
use Rattle.guest_code.specs.Program.{Program}
use Rattle.walk_items.specs.{Items.{ItemView, AreOf}, Walks.WalkView}
use Rattle.walk.specs.Founds.{found_walk}
use Rattle.book.specs.{Books.{BookView, Keeps, IsOpenAt, settled, taken_in}, ItemLists.all_of}
use Rattle.book.proofs.{BookFields.book_of, OpenItems.unpacked_own, TakenOver.settled_by_found}
use Rattle.book.proofs.{Thinned.settles_any, books.Book.settle.Goals.{After-item-1, In-Some}}
use Rattle.book.proofs.books.Book.settle.Goals as goal

-- the walk is of the book's program and mode
own : (c : After-item-1) → c.args.self.now.of.program ≡ c.args.walked.item.program
own c = ap (λ (b : BookView). b.of.program) (sym c.self.view_is)
    ∙ (sym c.program.ensures
    ∙ (c.if-not-is_same.ensures.0 refl ∙ c.program-else-not-same_modes.ensures))

in_mode : (c : After-item-1) → c.args.self.now.mode ≡ c.args.walked.mode
in_mode c = ap (λ (b : BookView). b.mode) (sym c.self.view_is)
    ∙ (c.if-not-same_modes.ensures.0 refl ∙ c.mode.ensures)

-- so what was found settles it
taken : (c : After-item-1) (place : ℕ) → let b = c.args.self.now in
    taken_in b (remove b.open_items place) c.into_parts-item.result.1 ≡ settled b c.args.walked place
taken c place =
    let b = c.args.self.now in
    settled_by_found b c.args.walked.item c.into_parts-item.result.1 place (own c)
    ∙ ap (λ (w : WalkView). settled b w place)
    ((λ k. found_walk (in_mode c k) c.args.walked.item c.into_parts-item.result.1)
    ∙ c.into_parts-item.ensures.found)

pub position-requires : goal.position-requires
position-requires c =
    subst (λ (p : Program). AreOf p c.self.inside.open_items.unpacked)
    (ap (λ (z : BookView). z.of.program) c.self.view_is
    ∙ (own c ∙ ap (λ (i : ItemView). i.program) (sym c.into_parts-item.ensures.item)))
    (unpacked_own (book_of c.self.inside) c.self.inside.open_items refl c.self.invariant.0)

-- the item is open at the place that was found
at : (c : In-Some) → c.args.self.now.of.program ≡ c.args.walked.item.program →
    IsOpenAt c.args.self.now c.args.walked.item c.in-Some.place
at c same =
    let item = c.into_parts-item.ensures.item in
    let open_is : all_of c.args.walked.item.program c.self.inside.open_items
    ≡ c.args.self.now.open_items =
    ap (λ (p : Program). all_of p c.self.inside.open_items)
    (sym same ∙ ap (λ (b : BookView). b.of.program) (sym c.self.view_is))
    ∙ ap (λ (b : BookView). b.open_items) c.self.view_is in
    subst (λ (xs : List ItemView). (c.in-Some.place < length xs)
    × (slice_get xs c.in-Some.place ≡ Some c.args.walked.item)) open_is
    (subst (λ (i : ItemView).
    (c.in-Some.place < length (all_of i.program c.self.inside.open_items))
    × (slice_get (all_of i.program c.self.inside.open_items) c.in-Some.place ≡ Some i)) item
    c.in-Some.ensures.some)

pub settle_at-requires : goal.settle_at-requires
settle_at-requires c =
    let b = c.args.self.now in
    let before = (goal.at.settle_at-requires c).After-item-1 in
    let there = at (goal.at.settle_at-requires c).In-Some (own before) in
    record {
      first = All-cons (λ k. c.in-Some.place ≤ k) c.in-Some.place [] (omega arith)
          (All-nil (λ k. c.in-Some.place ≤ k));
      within = (there.0, tt);
      keeps = subst Keeps (sym (taken before c.in-Some.place))
          (settles_any b c.args.walked c.in-Some.place (subst Keeps c.self.view_is c.self.invariant.0)
          c.into_parts-item.ensures.walked (in_mode before, own before) there);
    }

pub returns-clause-ok : goal.returns-clause-ok
returns-clause-ok c =
    let before = (goal.at.returns-clause-ok c).After-item-1 in
    record {
      of = (in_mode before, own before);
      place = c.in-Some.place;
      is_open = at (goal.at.returns-clause-ok c).In-Some (own before);
      book = c.in_ok-settle_at.ensures.book ∙ taken before c.in-Some.place;
    }
