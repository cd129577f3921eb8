use Rattle.std.proofs.Common.{rules, ◌≡◌, ◌∙◌, false, not, ◌&&◌, refl, ap, sym, subst, IfSome, IfNone, inl, inr}
use Rattle.walk_items.specs.Items.{AreOf}
use Rattle.book.specs.Books.{BookView, Keeps, AreWithin, AreOpenAt, StandInOrder, HaveSettled, taken_in, remove_each}
use Rattle.book.{specs.ItemLists.all_of, proofs.BookFields.book_of}
use Rattle.book.proofs.{Gathered.{walked_within, settled_together}, Lists.open_within}
use Rattle.book.proofs.OpenItems.{open_run, unpacked_own, run_of, same_of}
use Rattle.book.proofs.books.Book.settle_all.Goals.{After-as_slice}
use Rattle.book.proofs.books.Book.settle_all.Goals as goal

pub unpack_and_find-requires-clause-places : goal.unpack_and_find-requires-clause-places
unpack_and_find-requires-clause-places c =
    let f = c.requires.walked in
    walked_within c.args.self.now.mode c.args.items.now c.args.places.now f.walks f.of

pub unpack_and_find-requires-clause-run : goal.unpack_and_find-requires-clause-run
unpack_and_find-requires-clause-run c =
    run_of c.self.inside.open_items.packed c.shared_program.ensures
    (open_run (book_of c.self.inside) c.self.inside.open_items refl c.self.invariant.0)

pub unpack_and_find-requires-clause-unpacked : goal.unpack_and_find-requires-clause-unpacked
unpack_and_find-requires-clause-unpacked c =
    subst (λ p. AreOf p c.self.inside.open_items.unpacked) (sym c.shared_program.ensures)
    (unpacked_own (book_of c.self.inside) c.self.inside.open_items refl c.self.invariant.0)

pub unpack_and_find-requires-clause-program : goal.unpack_and_find-requires-clause-program
unpack_and_find-requires-clause-program c =
    subst (λ p. AreOf p c.args.items.now) (sym c.shared_program.ensures)
    (subst (λ (z : BookView). AreOf z.of.program c.args.items.now) (sym c.self.view_is)
    c.requires.program)

-- the items stand at the places that were answered
there : (c : After-as_slice) → AreOpenAt c.args.self.now.open_items c.args.items.now
    c.args.places.now c.as_slice.result.now
there c =
    let b = book_of c.self.inside in
    let at = AreOpenAt b.open_items c.args.items.now c.args.places.now in
    subst (λ (z : BookView). AreOpenAt z.open_items c.args.items.now c.args.places.now
    c.as_slice.result.now) c.self.view_is
    (subst at (sym c.as_slice.ensures.value)
    (subst (λ o. IfSome o (λ v. at v.items)) c.in-Some.is
    (subst (λ p. IfSome c.in_ok-open_at.field-0 (λ v. AreOpenAt (all_of p c.self.inside.open_items)
    c.args.items.now c.args.places.now v.items)) c.shared_program.ensures
    c.in_ok-open_at.ensures.there)))

-- to unpack items changes nothing in the book
moved : (c : After-as_slice) →
    book_of (record c.self.inside { open_items = c.unpack_and_find.new.self }) ≡ c.args.self.now
moved c =
    ap (λ is. record (book_of c.self.inside) { open_items = is })
    (same_of c.unpack_and_find.new.self c.self.inside.open_items c.shared_program.ensures
    c.in_ok-open_at.ensures.same)
    ∙ c.self.view_is

-- the walks list what the book lists
lists : (c : After-as_slice) → (c.args.self.now.lists && not c.args.found.now.lists) ≡ false
lists c = search rules

pub settle_at-requires-clause-within : goal.settle_at-requires-clause-within
settle_at-requires-clause-within c =
    subst (λ (z : BookView). AreWithin z.open_items c.as_slice.result.now) (sym (moved c))
    (open_within c.args.self.now.open_items c.args.items.now c.args.places.now
    c.as_slice.result.now (there c))

-- the book where what was found is settled
abbrev taken : (c : After-as_slice) → BookView → BookView
taken c z = taken_in z (remove_each z.open_items c.as_slice.result.now) c.args.found.now

pub settle_at-requires-clause-keeps : goal.settle_at-requires-clause-keeps
settle_at-requires-clause-keeps c =
    subst (λ (z : BookView). Keeps (taken c z)) (sym (moved c))
    (settled_together c.args.items.now c.args.places.now _ c.args.found.now c.args.self.now
    c.requires.program (subst Keeps c.self.view_is c.self.invariant.0) (there c) (lists c)
    c.requires.walked).1

pub returns-clause-taken : goal.returns-clause-taken
returns-clause-taken c = λ f is_taken.
    let before = (goal.at.returns-clause-taken c).After-as_slice in
    subst (HaveSettled c.args.self.now f.walks)
    (ap (taken before) (sym (moved before)) ∙ sym c.in_ok-settle_at.ensures.book)
    (settled_together c.args.items.now c.args.places.now _ c.args.found.now c.args.self.now
    c.requires.program (subst Keeps c.self.view_is c.self.invariant.0) (there before)
    (lists before) f).0

pub returns-then-not-found-clause-not_taken : goal.returns-then-not-found-clause-not_taken
returns-then-not-found-clause-not_taken c = λ e. inl (search rules)

pub returns-in_default-clause-not_taken : goal.returns-in_default-clause-not_taken
returns-in_default-clause-not_taken c = λ e. inr
    (subst (λ (z : BookView). StandInOrder z.open_items c.args.items.now c.args.places.now → ⊥)
    c.self.view_is
    (subst (λ o. IfNone o (StandInOrder (book_of c.self.inside).open_items c.args.items.now
    c.args.places.now → ⊥)) c.in_default.is
    (subst (λ p. IfNone c.in_ok-open_at.field-0 (StandInOrder (all_of p c.self.inside.open_items)
    c.args.items.now c.args.places.now → ⊥)) c.shared_program.ensures
    c.in_ok-open_at.ensures.none)))
