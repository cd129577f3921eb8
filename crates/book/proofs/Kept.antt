-- What the type of a book keeps, whether it lists what its bound puts off or not.
use Rattle.std.proofs.Common.{◌≡◌, ℕ, ◌≤◌, Bool, true, false, List, [], ◌++◌, sym, subst, arith}
use Rattle.std.specs.List.{All}
use Rattle.semantics_schedules.specs.Schedules.{begins_with}
use Rattle.walk_items.specs.{Items.covers, Walks.{IsWithin, listed_if}}
use Rattle.walk_items.proofs.{Covers.{at_most_one, covers-append}, ListParts.all_right}
use Rattle.walk_items.proofs.WalkedItems.{HasItsOf, rest_has}
use Rattle.book.specs.Books.{BookView, Keeps, KeepsWhere, IsBook, IsThinned, with_deferred, items_left}

-- a book from which no item was dropped
pub kept_whole : (b : BookView) → (h : Keeps b) → b.dropped ≡ false →
    IsBook (with_deferred b h.put)
kept_whole b h e = subst (λ (d : Bool). KeepsWhere d (with_deferred b h.put)) e h.split

-- a book from which one was
pub kept_thinned : (b : BookView) → (h : Keeps b) → b.dropped ≡ true →
    IsThinned (with_deferred b h.put)
kept_thinned b h e = subst (λ (d : Bool). KeepsWhere d (with_deferred b h.put)) e h.split

-- the prefix of the book's item is within the bound
pub kept_within : (b : BookView) → Keeps b → IsWithin b.mode b.of
kept_within b h = go b.dropped h.split
  where
    go : (d : Bool) → KeepsWhere d (with_deferred b h.put) → IsWithin b.mode b.of
    go false s = s.within
    go true t = t.split.within

-- a schedule is under one of the open and the deferred items at most
pub kept_apart : (b : BookView) → Keeps b → (v : List ℕ) → covers v (items_left b) ≤ 1
kept_apart b h v =
    subst (λ is. covers v (b.open_items ++ is) ≤ 1) (sym h.listed)
    (listed b.lists (put b.dropped h.split))
  where
    put : (d : Bool) → KeepsWhere d (with_deferred b h.put) → covers v (b.open_items ++ h.put) ≤ 1
    put false s =
        let a = s.split.apart v in
        let c = at_most_one (begins_with b.of.prefix v) in
        omega (arith, a, c)
    put true t =
        let a = t.split.split.apart v in
        let c = at_most_one (begins_with b.of.prefix v) in
        let x = covers-append v (t.gone ++ b.open_items) h.put in
        let y = covers-append v t.gone b.open_items in
        let z = covers-append v b.open_items h.put in
        omega (arith, a, c, x, y, z)

    listed : (lists : Bool) → covers v (b.open_items ++ h.put) ≤ 1 →
        covers v (b.open_items ++ listed_if lists h.put) ≤ 1
    listed true l = l
    listed false l =
        let x = covers-append v b.open_items h.put in
        let y = covers-append v b.open_items [] in
        omega (arith, l, x, y)

-- the open items have their schedules of the book's
pub kept_schedules : (b : BookView) → Keeps b →
    All (HasItsOf b.mode b.of) b.open_items
kept_schedules b h = go b.dropped h.split
  where
    go : (d : Bool) → KeepsWhere d (with_deferred b h.put) →
        All (HasItsOf b.mode b.of) b.open_items
    go false s = rest_has b.mode b.of b.finished b.open_items h.put s.split
    go true t =
        all_right (HasItsOf b.mode b.of) t.gone b.open_items
        (rest_has b.mode b.of b.finished (t.gone ++ b.open_items) h.put t.split.split)
