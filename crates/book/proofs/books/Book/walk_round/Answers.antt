use Rattle.std.proofs.Common.{◌≡◌, ◌≤◌, ◌+◌, ◌-◌, ◌∙◌, ap, sym, subst, arith, refl, length, take, replicate, ℕ, List}
use Rattle.std.proofs.lemmas.List.Elements.{All-weaker, All-take, All-replicate}
use Rattle.walk_items.specs.Items.{ItemView}
use Rattle.book.specs.Books.{BookView, Keeps, AreWithin, HasWalkedRound, taken_in, remove_each}
use Rattle.book.proofs.{BookFields.book_of, OpenItems.{same_of, open_run, run_of}}
use Rattle.book.proofs.Rounds.{IsFoundFrom, open_at, at_end, added_tried, round_begins, round_goes_on, round_settles}
use Rattle.book.proofs.{TakenOver.on_settled, books.Book.walk_round.Goals.After-loop-place}
use Rattle.book.proofs.books.Book.walk_round.Goals as goal

pub loop-place-init : goal.loop-place-init
loop-place-init c =
    let first = c.saturating_sub-first.result in
    let none = ap (λ s. s.tried) c.clear.ensures.part in
    record {
      walker = c.clear.ensures.program;
      lists = c.clear.ensures.lists ∙ ap (λ (z : BookView). z.lists) c.self.view_is;
      tried = omega (arith, none);
      walked = round_begins c.args.self.now first (first - first) c.args.quota c.clear.new.found
          (omega arith) c.clear.ensures.part c.clear.ensures.rest c.clear.ensures.deferred;
    }

pub walk_into-requires-clause-program : goal.walk_into-requires-clause-program
walk_into-requires-clause-program c =
    let b = book_of c.self.inside in
    let at = open_at b _ _ c.loop-place.place _ c.self.invariant.0
    (same_of c.unpack_from.new.self c.self.inside.open_items c.shared_program.ensures
    c.unpack_from.ensures.same)
    (c.len-end.ensures b.of.program) c.loop-place-test.true
    (c.unpacked_item-item.ensures b.of.program) in
    sym at.1
    ∙ (ap (λ (z : BookView). z.of.program) c.self.view_is ∙ (sym c.requires.walker
    ∙ sym c.loop-place.invariant.walker))

pub loop-place-preserved : goal.loop-place-preserved
loop-place-preserved c =
    let b = book_of c.self.inside in
    let item : ItemView = c.unpacked_item-item.result.now in
    let from = c.loop-place.auto.place in
    let tried = c.loop-place.invariant.tried in
    let quota = c.ranges.quota.fits in
    let at = open_at b _ _ c.loop-place.place item c.self.invariant.0
    (same_of c.unpack_from.new.self c.self.inside.open_items c.shared_program.ensures
    c.unpack_from.ensures.same)
    (c.len-end.ensures b.of.program) c.loop-place-test.true
    (c.unpacked_item-item.ensures b.of.program) in
    let more = added_tried c.self.inside.mode item c.args.quota c.loop-place.found
    c.walk_into.new.found c.in_ok-walk_into.ensures.added in
    record {
      walker = c.walk_into.ensures.program ∙ c.loop-place.invariant.walker;
      lists = c.in_ok-walk_into.ensures.added.lists ∙ c.loop-place.invariant.lists;
      tried = omega (arith, tried, more, quota);
      walked = subst (λ (z : BookView). IsFoundFrom z c.saturating_sub-first.result
          (c.loop-place.place + 1 - c.saturating_sub-first.result) c.args.quota c.walk_into.new.found)
          c.self.view_is
          (round_goes_on b item c.saturating_sub-first.result c.loop-place.place c.args.quota
          c.loop-place.found c.walk_into.new.found from at.0 at.1 c.in_ok-walk_into.ensures.added
          (subst (λ (z : BookView). IsFoundFrom z c.saturating_sub-first.result
          (c.loop-place.place - c.saturating_sub-first.result) c.args.quota c.loop-place.found)
          (sym c.self.view_is) c.loop-place.invariant.walked));
    }

pub settle_at-requires-clause-first : goal.settle_at-requires-clause-first
settle_at-requires-clause-first c =
    let first = c.saturating_sub-first.result in
    All-weaker (λ k. k ≡ first) (λ k. first ≤ k) (λ k e. omega (arith, e)) _
    (All-take (λ k. k ≡ first) (c.len-end.result - first) _
    (All-replicate (λ k. k ≡ first) 64 first refl))

-- to unpack items changes nothing in the book
moved : (c : After-loop-place) →
    book_of (record c.self.inside { open_items = c.unpack_from.new.self }) ≡ c.args.self.now
moved c =
    ap (λ is. record (book_of c.self.inside) { open_items = is })
    (same_of c.unpack_from.new.self c.self.inside.open_items c.shared_program.ensures
    c.unpack_from.ensures.same) ∙ c.self.view_is

-- the places of the round's items, each counted without those before it
abbrev places : After-loop-place → List ℕ
places c =
    take (c.len-end.result - c.saturating_sub-first.result)
    (replicate 64 c.saturating_sub-first.result)

-- the book where what was found is settled
abbrev taken : (c : After-loop-place) → BookView → BookView
taken c z = taken_in z (remove_each z.open_items (places c)) c.loop-place.found

-- the items are walked up to the last one
walked : (c : After-loop-place) → let b = c.args.self.now in
    AreWithin b.open_items (places c) × Keeps (taken c b)
    × HasWalkedRound b c.args.quota (taken c b)
walked c =
    round_settles c.args.self.now _ _ c.loop-place.place c.args.quota c.loop-place.found
    (subst Keeps c.self.view_is c.self.invariant.0) c.saturating_sub-first.ensures
    (c.len-end.ensures c.self.inside.of.program
    ∙ ap (λ (z : BookView). length z.open_items) c.self.view_is)
    (at_end _ c.loop-place.place _ c.saturating_sub-first.ensures c.loop-place.auto.place-end
    c.loop-place-test.false) c.loop-place.invariant.lists c.loop-place.invariant.walked

pub settle_at-requires-clause-within : goal.settle_at-requires-clause-within
settle_at-requires-clause-within c =
    let d = (goal.at.settle_at-requires-clause-within c).After-loop-place in
    subst (λ (z : BookView). AreWithin z.open_items (places d)) (sym (moved d)) (walked d).0

pub settle_at-requires-clause-keeps : goal.settle_at-requires-clause-keeps
settle_at-requires-clause-keeps c =
    let d = (goal.at.settle_at-requires-clause-keeps c).After-loop-place in
    subst (λ (z : BookView). Keeps (taken d z)) (sym (moved d)) (walked d).1

pub returns-clause-ok : goal.returns-clause-ok
returns-clause-ok c =
    let d = (goal.at.returns-clause-ok c).After-loop-place in
    on_settled c.settle_at.result c.settle_at.new.self _ _
    (HasWalkedRound c.args.self.now c.args.quota c.settle_at.new.self) c.settle_at.ensures.book
    (λ is. subst (HasWalkedRound c.args.self.now c.args.quota)
    (ap (taken d) (sym (moved d)) ∙ sym is) (walked d).2)

pub unpack_from-requires : goal.unpack_from-requires
unpack_from-requires c =
    let b = book_of c.self.inside in
    run_of c.self.inside.open_items.packed c.shared_program.ensures
    (open_run b c.self.inside.open_items refl c.self.invariant.0)
