-- The items of prefixes, and the last one of them.
use Rattle.std.proofs.Common.{◌≡◌, ℕ, zero, suc, Some, Result, IfOk, slice_get, ◌-◌, ◌<◌, List, [], ◌∷◌, ◌++◌, length, get_or, take, refl, ap, sym, ◌∙◌, subst, arith}
use Rattle.std.{specs.List.All, proofs.Math.Seq.take-suc, proofs.lemmas.List.take_all}
use Rattle.std.proofs.lemmas.List.Elements.{All-head}
use Rattle.guest_code.specs.Program.{Program}
use Rattle.walk_items.specs.{Items.{ItemView, IsItem, item_at}, Walks.items_at}
use Rattle.walk_items.proofs.ListParts.{all_right}
use Rattle.walk_prefixes.specs.PrefixLists.{last_of}

pub got : (r : List (List ℕ)) (k : ℕ) (w : List ℕ) → slice_get r k ≡ Some w → get_or r k [] ≡ w
got [] k w e = cc
got (x ∷ xs) zero w e = cc
got (x ∷ xs) (suc k) w e = got xs k w e

last_apart : (r : List (List ℕ)) → 0 < length r → r ≡ take (length r - 1) r ++ last_of r ∷ []
last_apart r some =
    let e : length r ≡ suc (length r - 1) = omega (arith, some) in
    sym (take_all (length r) r (omega arith))
    ∙ (ap (λ n. take n r) e ∙ take-suc r (length r - 1) [] (omega (arith, some)))

pub items_of_both : (p : Program) (xs ys : List (List ℕ)) →
    items_at p (xs ++ ys) ≡ items_at p xs ++ items_at p ys
items_of_both p [] ys = refl
items_of_both p (x ∷ xs) ys = ap (λ is. item_at p x ∷ is) (items_of_both p xs ys)

last_runs : (p : Program) (r : List (List ℕ)) → 0 < length r → All IsItem (items_at p r) →
    IsItem (item_at p (last_of r))
last_runs p r some h =
    All-head IsItem (item_at p (last_of r)) []
    (all_right IsItem (items_at p (take (length r - 1) r)) (item_at p (last_of r) ∷ [])
    (subst (All IsItem)
    (ap (items_at p) (last_apart r some)
    ∙ items_of_both p (take (length r - 1) r) (last_of r ∷ []))
    h))

-- the item of an equal program and of a prefix that is the last of these
pub last_is : (p q : Program) (r : List (List ℕ)) (w : List ℕ) → q ≡ p →
    Some w ≡ slice_get r (length r - 1) → item_at q w ≡ item_at p (last_of r)
last_is p q r w same e = λ k. item_at (same k) (sym (got r (length r - 1) w (sym e)) k)

has_last : (r : List (List ℕ)) (w : List ℕ) → Some w ≡ slice_get r (length r - 1) → 0 < length r
has_last [] w e = cc
has_last (x ∷ r) w e = omega arith

pub last_item_runs : {p q : Program} {w : List ℕ} (r : List (List ℕ)) → q ≡ p →
    Some w ≡ slice_get r (length r - 1) → All IsItem (items_at p r) → IsItem (item_at q w)
last_item_runs {p} {q} {w} r same e h =
    subst IsItem (sym (last_is p q r w same e)) (last_runs p r (has_last r w e) h)

pub last_item_made : {p q : Program} {w : List ℕ} {X : Type 0} (r : List (List ℕ))
    (made : Result ItemView X) → q ≡ p → Some w ≡ slice_get r (length r - 1) →
    IfOk made (λ i. i ≡ item_at q w) → IfOk made (λ i. i ≡ item_at p (last_of r))
last_item_made {p} {q} {w} r made same e is =
    subst (λ (x : ItemView). IfOk made (λ i. i ≡ x)) (last_is p q r w same e) is
