use Rattle.std.proofs.Common.{refl, ◌≡◌, ◌∙◌, ◌++◌, ◌≤◌, sym, ap, subst, arith, length, ◌&&◌}
use Rattle.std.{specs.List.All, proofs.lemmas.List.Elements.All-weaker}
use Rattle.walk_items.specs.{Items.IsItem, Walks.{items_at, listed_if}}
use Rattle.walk_items.proofs.{ListParts.all_right, Listed.listed_items}
use Rattle.book.specs.Books.{BookView, Keeps, IsSwept, taken_in, remove_each, AreWithin}
use Rattle.book.{specs.ItemLists.all_of, proofs.BookFields.book_of, proofs.Lists.within_more}
use Rattle.book.proofs.OpenItems.{open_run, waiting_run, run_of, same_of, more_of}
use Rattle.book.proofs.Swept.{taken_swept}
use Rattle.book.proofs.TakenOver.{grown, still_there, open_taken, taken_back, same_book}
use Rattle.book.proofs.books.Book.settle_at.Goals.{After-drop-none-inside-in-Err-2, After-drop-none-inside-3}
use Rattle.book.proofs.books.Book.settle_at.Goals as goal

pub unpack_from-requires : goal.unpack_from-requires
unpack_from-requires c =
    let b = book_of c.self.inside in
    run_of c.self.inside.open_items.packed c.shared_program-program.ensures
    (open_run b c.self.inside.open_items refl c.self.invariant.0)

pub append_prefixes-requires : goal.append_prefixes-requires
append_prefixes-requires c =
    let b = c.args.self.now in
    let found = c.args.found.now in
    run_of c.listed_prefixes-listed.result.now c.shared_program-program.ensures
    (subst (λ ps. All IsItem (items_at c.self.inside.of.program ps))
    (sym c.listed_prefixes-listed.ensures)
    (subst (λ (z : BookView). All IsItem (items_at z.of.program (listed_if z.lists found.deferred)))
    (sym c.self.view_is)
    (subst (All IsItem) (sym (listed_items b.of.program b.lists found.deferred))
    (all_right IsItem b.deferred (listed_if b.lists (items_at b.of.program found.deferred))
    (waiting_run (taken_in b (remove_each b.open_items c.args.places.now) found)
    c.requires.keeps)))))

-- the book is as before where memory for its items was refused
pub invariant_of-self-in_err-reserve : goal.invariant_of-self-in_err-reserve
invariant_of-self-in_err-reserve c =
    let b = book_of c.self.inside in
    let p = c.self.inside.of.program in
    let own = c.shared_program-program.ensures in
    let opened = same_of c.unpack_from.new.self c.self.inside.open_items own
    c.unpack_from.ensures.same in
    let same = same_book b b.finished (all_of p c.reserve.new.self)
    (all_of p c.self.inside.deferred) refl
    (still_there p c.unpack_from.new.self c.reserve.new.self b.open_items opened
    c.reserve.ensures.packed c.reserve.ensures.unpacked)
    refl in (
      subst Keeps (sym same) c.self.invariant.0,
      subst (IsSwept c.self.inside.swept) (sym same) c.self.invariant.1,
    )

-- and where what was deferred was refused
pub invariant_of-self-in_err-append_prefixes : goal.invariant_of-self-in_err-append_prefixes
invariant_of-self-in_err-append_prefixes c =
    let b = book_of c.self.inside in
    let p = c.self.inside.of.program in
    let own = c.shared_program-program.ensures in
    let opened = same_of c.unpack_from.new.self c.self.inside.open_items own
    c.unpack_from.ensures.same in
    let as_before = same_of c.append_prefixes.new.self c.self.inside.deferred own
    c.in_err-append_prefixes.ensures.all in
    let same = same_book b b.finished (all_of p c.reserve.new.self)
    (all_of p c.append_prefixes.new.self) refl
    (still_there p c.unpack_from.new.self c.reserve.new.self b.open_items opened
    c.reserve.ensures.packed c.reserve.ensures.unpacked)
    as_before in (
      subst Keeps (sym same) c.self.invariant.0,
      subst (IsSwept c.self.inside.swept) (sym same) c.self.invariant.1,
    )

-- and where the sum was refused
not_joined : (c : After-drop-none-inside-in-Err-2) → record (book_of c.self.inside) {
  finished = c.join_in.new.self;
  open_items = all_of c.self.inside.of.program c.reserve.new.self;
  deferred = all_of c.self.inside.of.program c.truncate.new.self;
} ≡ book_of c.self.inside
not_joined c =
    let b = book_of c.self.inside in
    let p = b.of.program in
    let own = c.shared_program-program.ensures in
    let opened = same_of c.unpack_from.new.self c.self.inside.open_items own
    c.unpack_from.ensures.same in
    let more = more_of c.append_prefixes.new.self c.self.inside.deferred
    c.listed_prefixes-listed.result.now own c.in_ok-append_prefixes.ensures.all in
    same_book b c.join_in.new.self (all_of p c.reserve.new.self) (all_of p c.truncate.new.self)
    c.in-Err.ensures.joined
    (still_there p c.unpack_from.new.self c.reserve.new.self b.open_items opened
    c.reserve.ensures.packed c.reserve.ensures.unpacked)
    (taken_back b.deferred (items_at p c.listed_prefixes-listed.result.now)
    (all_of p c.append_prefixes.new.self) (all_of p c.truncate.new.self)
    c.len-deferred_len.result
    more
    (c.len-deferred_len.ensures p) (c.truncate.ensures.items p))

pub invariant_of-self-in-Err : goal.invariant_of-self-in-Err
invariant_of-self-in-Err c = (
  subst Keeps (sym (not_joined c)) c.self.invariant.0,
  subst (IsSwept c.self.inside.swept) (sym (not_joined c)) c.self.invariant.1,
)

pub returns-in-Err-clause-book : goal.returns-in-Err-clause-book
returns-in-Err-clause-book c = not_joined c ∙ c.self.view_is

pub returns-in-Err-clause-found : goal.returns-in-Err-clause-found
returns-in-Err-clause-found c = λ k. record c.args.found.now { part = c.in-Err.ensures.other k }

pub append-requires : goal.append-requires
append-requires c =
    let room = c.in_ok-reserve.ensures.room in
    let rest = c.len.ensures in
    omega (arith, room, rest)

pub remove_each-requires-clause-unpacked : goal.remove_each-requires-clause-unpacked
remove_each-requires-clause-unpacked c =
    let n = c.in_ok-unpack_from.ensures.unpacked in
    let same = ap length (c.append.ensures.packed ∙ c.reserve.ensures.packed) in
    All-weaker (λ k. c.args.first ≤ k) (λ k. length c.append.new.self.packed ≤ k)
    (λ k l. omega (arith, n, same, l)) c.args.places.now c.requires.first

pub remove_each-requires-clause-within : goal.remove_each-requires-clause-within
remove_each-requires-clause-within c =
    let p = c.self.inside.of.program in
    let places = c.args.places.now in
    let rest = c.args.found.now.rest.items in
    let b = book_of c.self.inside in
    let own = c.shared_program-program.ensures in
    let opened = same_of c.unpack_from.new.self c.self.inside.open_items own
    c.unpack_from.ensures.same in (
      p,
      subst (λ xs. AreWithin xs places) (sym (grown p c.reserve.new.self c.append.new.self rest
          c.append.ensures.packed c.append.ensures.unpacked))
          (within_more (all_of p c.reserve.new.self) rest places
          (subst (λ xs. AreWithin xs places) (sym (still_there p c.unpack_from.new.self
          c.reserve.new.self b.open_items opened c.reserve.ensures.packed
          c.reserve.ensures.unpacked))
          (subst (λ (z : BookView). AreWithin z.open_items places) (sym c.self.view_is)
          c.requires.within))),
    )

-- the book where the walks are settled
settled : (c : After-drop-none-inside-3) → record (book_of c.self.inside) {
  finished = c.join_in.new.self;
  open_items = all_of c.self.inside.of.program c.remove_each.new.self;
  deferred = all_of c.self.inside.of.program c.append_prefixes.new.self;
} ≡ taken_in (book_of c.self.inside)
    (remove_each (book_of c.self.inside).open_items c.args.places.now) c.args.found.now
settled c =
    let b = book_of c.self.inside in
    let p = b.of.program in
    let found = c.args.found.now in
    let places = c.args.places.now in
    let within = subst (λ (z : BookView). AreWithin z.open_items places) (sym c.self.view_is)
    c.requires.within in
    let own = c.shared_program-program.ensures in
    let opened = same_of c.unpack_from.new.self c.self.inside.open_items own
    c.unpack_from.ensures.same in
    let more = more_of c.append_prefixes.new.self c.self.inside.deferred
    c.listed_prefixes-listed.result.now own c.in_ok-append_prefixes.ensures.all in
    let items = open_taken p c.reserve.new.self c.append.new.self c.remove_each.new.self
    b.open_items found.rest.items places
    (still_there p c.unpack_from.new.self c.reserve.new.self b.open_items opened
    c.reserve.ensures.packed c.reserve.ensures.unpacked)
    c.append.ensures.packed c.append.ensures.unpacked (c.remove_each.ensures.items p) within in
    λ k. record b {
      finished = c.in_default.ensures.joined k;
      open_items = items k;
      deferred = (more ∙ (λ j. b.deferred ++ (ap (items_at p) c.listed_prefixes-listed.ensures
          ∙ listed_items p b.lists found.deferred) j)) k;
    }

pub invariant_of-self-2 : goal.invariant_of-self-2
invariant_of-self-2 c =
    let b = book_of c.self.inside in
    let found = c.args.found.now in
    let taken : BookView → BookView =
    λ z. taken_in z (remove_each z.open_items c.args.places.now) found in (
      subst Keeps (sym (settled c ∙ ap taken c.self.view_is)) c.requires.keeps,
      subst (IsSwept (c.self.inside.swept && c.adds_nothing_to_drop-quiet.result)) (sym (settled c))
          (taken_swept c.self.inside.swept c.adds_nothing_to_drop-quiet.result b c.args.places.now found
          c.self.invariant.1 c.adds_nothing_to_drop-quiet.ensures),
    )

pub returns-clause-book : goal.returns-clause-book
returns-clause-book c =
    settled c
    ∙ ap (λ (z : BookView). taken_in z (remove_each z.open_items c.args.places.now)
    c.args.found.now) c.self.view_is
