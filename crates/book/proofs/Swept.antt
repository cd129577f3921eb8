-- Books of which it is known that they drop none of their open items.
use Rattle.std.proofs.Common.{◌≡◌, ℕ, zero, suc, Bool, true, false, cond, ◌&&◌, ◌||◌, not, List, []}
use Rattle.std.proofs.Common.{◌∷◌, ◌++◌, None, refl, ap, ◌∙◌, sym, subst}
use Rattle.std.{specs.List.{filter, list_any, remove}, proofs.lemmas.List.Folds.list_any-append}
use Rattle.semantics_schedules.specs.Order.{lesser}
use Rattle.walk_summary.{specs.Summaries.join, proofs.LesserSchedules.lesser_none}
use Rattle.walk_summary.proofs.SumsJoin.{join_first_bad}
use Rattle.walk_items.specs.Items.{ItemView}
use Rattle.walk.specs.declared.found.Found.{Found}
use Rattle.book.specs.Books.{BookView, IsSwept, taken_in, remove_each, cannot_hold, drops}
use Rattle.book.proofs.DroppedCounts.{IsDropped, after_drop, thinned_is}

swept_filter : (f : ItemView → Bool) (xs : List ItemView) →
    list_any f (filter (λ i. not (f i)) xs) ≡ false
swept_filter f [] = refl
swept_filter f (x ∷ xs) = go (f x) refl (swept_filter f xs)
  where
    go : (b : Bool) → f x ≡ b → list_any f (filter (λ i. not (f i)) xs) ≡ false →
        list_any f (cond (not b) (x ∷ filter (λ i. not (f i)) xs) (filter (λ i. not (f i)) xs))
        ≡ false
    go true e r = r
    go false e r = (λ k. e k || list_any f (filter (λ i. not (f i)) xs)) ∙ r

pub drop_swept : (b : BookView) (first : List ℕ) (items : List ItemView) (number : ℕ) →
    IsDropped b first items number → IsSwept true (after_drop b items number)
drop_swept b first items number h =
    subst (λ (z : BookView). IsSwept true z) (sym (thinned_is b first items number h))
    (swept_filter (drops b) b.open_items)

or_false : (b : Bool) → (b || false) ≡ b
or_false true = refl
or_false false = refl

-- walks that found no bad schedule and left nothing leave such a book as it is
pub taken_swept : (s quiet : Bool) (b : BookView) (places : List ℕ) (found : Found) → IsSwept s b →
    (quiet ≡ true → (found.rest.items ≡ []) × (found.part.first_bad ≡ None)) →
    IsSwept (s && quiet) (taken_in b (remove_each b.open_items places) found)
taken_swept false quiet b places found h q = tt
taken_swept true false b places found h q = tt
taken_swept true true b places found h q =
    let r = q refl in
    let same : (join b.finished found.part).first_bad ≡ b.finished.first_bad =
    join_first_bad b.finished found.part
    ∙ (ap (lesser b.finished.first_bad) r.1 ∙ lesser_none b.finished.first_bad) in
    let left : List ItemView = remove_each b.open_items places in
    (λ k. list_any (λ i. b.quick && cannot_hold (same k) i) (left ++ r.0 k))
    ∙ (list_any-append (drops b) left []
    ∙ (or_false (list_any (drops b) left) ∙ any_each places b.open_items h))
  where
    both_false : (x y : Bool) → (x || y) ≡ false → (x ≡ false) × (y ≡ false)
    both_false true y e = cc
    both_false false y e = (refl, e)

    any_out : (n : ℕ) (xs : List ItemView) → list_any (drops b) xs ≡ false →
        list_any (drops b) (remove xs n) ≡ false
    any_out zero [] e = refl
    any_out (suc n) [] e = refl
    any_out zero (x ∷ xs) e = (both_false (drops b x) (list_any (drops b) xs) e).1
    any_out (suc n) (x ∷ xs) e =
        let f = both_false (drops b x) (list_any (drops b) xs) e in
        λ k. f.0 k || any_out n xs f.1 k

    any_each : (ns : List ℕ) (xs : List ItemView) → list_any (drops b) xs ≡ false →
        list_any (drops b) (remove_each xs ns) ≡ false
    any_each [] xs e = e
    any_each (n ∷ ns) xs e = any_each ns (remove xs n) (any_out n xs e)
