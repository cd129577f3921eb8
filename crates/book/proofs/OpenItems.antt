-- What the items of a book are: below its own item, so of its program, and their prefixes run.
use Rattle.std.proofs.Common.{◌≡◌, ℕ, ◌<◌, Bool, true, false, List, ◌++◌, length, get_or, slice_get, Some, sym, ◌∙◌, subst, append_assoc}
use Rattle.std.{specs.List.All, proofs.lemmas.List.append-nil}
use Rattle.std.proofs.lemmas.List.Elements.{All-weaker}
use Rattle.guest_code.specs.Program.{Program}
use Rattle.walk_items.specs.{Items.{ItemView, AreOf, IsItem}, Walks.{IsBelow, items_at, listed_if}}
use Rattle.walk_items.proofs.ListParts.{all_left, all_right}
use Rattle.book.specs.Books.{BookView, Keeps, KeepsWhere, with_deferred}
use Rattle.book.{specs.ItemLists.{ListView, all_of}, proofs.PackedItems.{below_run, got-or}}

-- what is known of lists as items of a program is known of them as items of an equal one
pub run_of : {p q : Program} (ws : List (List ℕ)) → p ≡ q → All IsItem (items_at q ws) →
    All IsItem (items_at p ws)
run_of ws e h = subst (λ p. All IsItem (items_at p ws)) (sym e) h

pub same_of : {p q : Program} (l m : ListView) → p ≡ q → all_of p l ≡ all_of p m →
    all_of q l ≡ all_of q m
same_of l m e h = subst (λ p. all_of p l ≡ all_of p m) e h

pub more_of : {p q : Program} (l m : ListView) (ws : List (List ℕ)) → p ≡ q →
    all_of p l ≡ all_of p m ++ items_at p ws → all_of q l ≡ all_of q m ++ items_at q ws
more_of l m ws e h = subst (λ p. all_of p l ≡ all_of p m ++ items_at p ws) e h

pub left_below : (b : BookView) → Keeps b →
    All (IsBelow b.of) (b.open_items ++ b.deferred)
left_below b h = subst below (sym h.listed) (listed b.lists (go b.dropped h.split))
  where
    below : List ItemView → Type 0
    below put = All (IsBelow b.of) (b.open_items ++ put)

    go : (d : Bool) → KeepsWhere d (with_deferred b h.put) → below h.put
    go true t =
        all_right (IsBelow b.of) t.gone (b.open_items ++ h.put)
        (subst (All (IsBelow b.of))
        (append_assoc t.gone b.open_items h.put) t.split.split.below)
    go false s = s.split.below

    listed : (lists : Bool) → below h.put → below (listed_if lists h.put)
    listed true all = all
    listed false all =
        subst (All (IsBelow b.of)) (sym (append-nil b.open_items))
        (all_left (IsBelow b.of) b.open_items h.put all)

pub open_run : (b : BookView) (l : ListView) → b.open_items ≡ all_of b.of.program l → Keeps b →
    All IsItem (items_at b.of.program l.packed)
open_run b l e h =
    all_left IsItem (items_at b.of.program l.packed) l.unpacked
    (subst (All IsItem) e
    (below_run b.of b.open_items
    (all_left (IsBelow b.of) b.open_items b.deferred (left_below b h))))

pub waiting_run : (b : BookView) → Keeps b → All IsItem b.deferred
waiting_run b h =
    below_run b.of b.deferred
    (all_right (IsBelow b.of) b.open_items b.deferred (left_below b h))

pub deferred_run : (b : BookView) (l : ListView) → b.deferred ≡ all_of b.of.program l → Keeps b →
    All IsItem (items_at b.of.program l.packed)
deferred_run b l e h =
    all_left IsItem (items_at b.of.program l.packed) l.unpacked
    (subst (All IsItem) e (waiting_run b h))

pub open_of : (b : BookView) → Keeps b → AreOf b.of.program b.open_items
open_of b h =
    All-weaker (IsBelow b.of) (λ i. i.program ≡ b.of.program) (λ i g. g.program)
    b.open_items
    (all_left (IsBelow b.of) b.open_items b.deferred (left_below b h))

pub unpacked_own : (b : BookView) (l : ListView) → b.open_items ≡ all_of b.of.program l → Keeps b →
    AreOf b.of.program l.unpacked
unpacked_own b l e h =
    all_right (λ i. i.program ≡ b.of.program) (items_at b.of.program l.packed) l.unpacked
    (subst (AreOf b.of.program) e (open_of b h))

-- an open item is of the book's program
pub open_own : (b : BookView) → Keeps b → (k : ℕ) (i : ItemView) → k < length b.open_items →
    slice_get b.open_items k ≡ Some i → b.of.program ≡ i.program
open_own b h k i lt at =
    let there : Some (get_or b.open_items k i) ≡ Some i = sym (got-or b.open_items k i lt) ∙ at in
    let same : get_or b.open_items k i ≡ i = cc in
    sym (subst (λ (x : ItemView). x.program ≡ b.of.program) same (open_of b h k i lt))
