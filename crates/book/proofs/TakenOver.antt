-- Lists that grow by what a walk left, and shrink again where a later step is refused.
use Rattle.std.proofs.Common.{◌≡◌, ℕ, ◌≤◌, List, [], ◌∷◌, ◌++◌, length, take, refl, ap, sym, ◌∙◌, arith, append_assoc, Result, Ok, Err, OnOk, is_ok, if◌then◌else◌}
use Rattle.std.specs.{List.remove, declared.alloc.AllocError.AllocError}
use Rattle.std.proofs.lemmas.List.{take_at}
use Rattle.guest_code.specs.Program.{Program}
use Rattle.walk_summary.specs.Summaries.{SummaryView}
use Rattle.walk_items.specs.{Items.ItemView, Walks.{items_at, listed_if}}
use Rattle.walk.specs.{Founds.found_walk, declared.found.Found.Found}
use Rattle.book.specs.Books.{BookView, settled, taken_in, remove_each, AreWithin}
use Rattle.book.{specs.ItemLists.{ListView, all_of}, proofs.Lists.each_left}

pub unpacked_only : (p : Program) (l : ListView) → l.packed ≡ [] → all_of p l ≡ l.unpacked
unpacked_only p l e = ap (λ ws. items_at p ws ++ l.unpacked) e

pub grown : (p : Program) (before after : ListView) (rest : List ItemView) →
    after.packed ≡ before.packed → after.unpacked ≡ before.unpacked ++ rest →
    all_of p after ≡ all_of p before ++ rest
grown p before after rest e f =
    (λ k. items_at p (e k) ++ f k)
    ∙ sym (append_assoc (items_at p before.packed) before.unpacked rest)

pub taken_back : {X : Type 0} (before rest after cut : List X) (n : ℕ) → after ≡ before ++ rest →
    n ≡ length before → cut ≡ take n after → cut ≡ before
taken_back before rest after cut n e f g =
    g ∙ (ap (take n) e ∙ take_at before rest n (sym f))

-- memory for more items changes none
pub still_there : (p : Program) (base roomy : ListView) (items : List ItemView) →
    all_of p base ≡ items → roomy.packed ≡ base.packed → roomy.unpacked ≡ base.unpacked →
    all_of p roomy ≡ items
still_there p base roomy items same e f = (λ k. items_at p (e k) ++ f k) ∙ same

-- those at some places are out, and those that came are in
pub open_taken : (p : Program) (base more out : ListView) (items rest : List ItemView)
    (places : List ℕ) → all_of p base ≡ items → more.packed ≡ base.packed →
    more.unpacked ≡ base.unpacked ++ rest →
    all_of p out ≡ remove_each (all_of p more) places → AreWithin items places →
    all_of p out ≡ remove_each items places ++ rest
open_taken p base more out items rest places same packed unpacked is within =
    is ∙ (ap (λ xs. remove_each xs places) (grown p base more rest packed unpacked
    ∙ ap (λ xs. xs ++ rest) same) ∙ each_left items rest places within)

pub same_book : (b : BookView) (finished : SummaryView) (open_items deferred : List ItemView) →
    finished ≡ b.finished → open_items ≡ b.open_items → deferred ≡ b.deferred →
    record b { finished = finished; open_items = open_items; deferred = deferred } ≡ b
same_book b finished open_items deferred e f g =
    λ k. record b { finished = e k; open_items = f k; deferred = g k }

-- what a walk found settles its item
pub settled_by_found : (b : BookView) (i : ItemView) (found : Found) (place : ℕ) →
    b.of.program ≡ i.program →
    taken_in b (remove b.open_items place) found ≡ settled b (found_walk b.mode i found) place
settled_by_found b i found place of = λ k. record (taken_in b (remove b.open_items place) found) {
  deferred = b.deferred ++ listed_if b.lists (items_at (of k) found.deferred);
}

pub on_settled : (r : Result (Unit {0}) AllocError) (new then_new else_new : BookView)
    (P : Type 0) → new ≡ (if is_ok r then then_new else else_new) → (new ≡ then_new → P) → OnOk r P
on_settled (Ok x) new then_new else_new P e f = f e
on_settled (Err x) new then_new else_new P e f = tt

pub none_there : (packed : List (List ℕ)) (n : ℕ) → length packed ≤ n → n ≡ 0 → packed ≡ []
none_there [] n h e = refl
none_there (x ∷ xs) n h e = absurd (omega (arith, h, e))
