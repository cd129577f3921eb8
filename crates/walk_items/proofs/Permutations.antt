-- What a permutation keeps: the sum of a list, the members that pass a test, how many items a
-- schedule lies under.
use Rattle.std.proofs.Common.{◌≡◌, ℕ, zero, suc, ◌<◌, Bool, true, false, cond, List, [], ◌∷◌, ◌++◌}
use Rattle.std.proofs.Common.{length, get_or, set, swap, refl, ap, ◌∙◌, sym, subst, arith}
use Rattle.std.proofs.Common.{append_assoc, IsPermutation}
use Rattle.std.{specs.List.{filter, flat_map}, proofs.lemmas.Grind.flat_map-append}
use Rattle.std.proofs.lemmas.List.Sorted.{IsPermutation-refl, IsPermutation-keeps}
use Rattle.std.proofs.lemmas.List.Sorted.{IsPermutation-trans, IsPermutation-cons}
use Rattle.std.proofs.lemmas.List.Sorted.{IsPermutation-append_left, IsPermutation-append_right}
use Rattle.std.proofs.lemmas.List.Sorted.{IsPermutation-append_comm}
use Rattle.guest_code.specs.Program.{Program}
use Rattle.walk_summary.specs.Summaries.{SummaryView, sum_of, join}
use Rattle.walk_summary.proofs.SumsJoin.{sum_of-append, join_comm}
use Rattle.walk_items.specs.Items.{ItemView, covers}

-- a relation that each list has to itself, that goes on under one more in front, over an exchange
-- of the first two, and from one to the next, holds along each permutation
module _ {X : Type 0} (R : List X → List X → Type 0) (same : (xs : List X) → R xs xs)
    (under : (x : X) (xs ys : List X) → R xs ys → R (x ∷ xs) (x ∷ ys))
    (turn : (x y : X) (xs : List X) → R (x ∷ y ∷ xs) (y ∷ x ∷ xs))
    (next : (xs ys zs : List X) → R xs ys → R ys zs → R xs zs) where
  to_front : (xs : List X) (i : ℕ) (x d : X) → i < length xs →
      R (x ∷ xs) (get_or xs i d ∷ set xs i x)
  to_front [] i x d h = absurd (omega arith)
  to_front (y ∷ xs) zero x d h = turn x y xs
  to_front (y ∷ xs) (suc i) x d h =
      next _ _ _ (turn x y xs)
      (next _ _ _ (under y _ _ (to_front xs i x d (omega arith)))
      (turn y (get_or xs i d) (set xs i x)))

  exchanged : (xs : List X) (i j : ℕ) (d : X) → i < length xs → j < length xs →
      R xs (set (set xs i (get_or xs j d)) j (get_or xs i d))
  exchanged [] i j d h k = absurd (omega arith)
  exchanged (x ∷ xs) zero zero d h k = same (x ∷ xs)
  exchanged (x ∷ xs) zero (suc j) d h k = to_front xs j x d (omega arith)
  exchanged (x ∷ xs) (suc i) zero d h k = to_front xs i x d (omega arith)
  exchanged (x ∷ xs) (suc i) (suc j) d h k =
      under x _ _ (exchanged xs i j d (omega arith) (omega arith))

  swapped : (xs : List X) (i j : ℕ) → i < length xs → j < length xs → R xs (swap xs i j)
  swapped [] i j h k = same []
  swapped (x ∷ xs) i j h k = exchanged (x ∷ xs) i j x h k

  along : (xs ys : List X) → IsPermutation xs ys → R xs ys
  along xs = IsPermutation-keeps xs (R xs) (same xs)
      (λ l i j h k r. next xs l _ r (swapped l i j h k))

pub flat_map-permutation : {A B : Type 0} (f : A → List B) (xs ys : List A) →
    IsPermutation xs ys → IsPermutation (flat_map f xs) (flat_map f ys)
flat_map-permutation f =
    along (λ xs ys. IsPermutation (flat_map f xs) (flat_map f ys)) (λ xs. IsPermutation-refl _)
    (λ x xs ys h. IsPermutation-append_right (f x) _ _ h)
    (λ x y xs. subst (λ L. IsPermutation L (f y ++ (f x ++ flat_map f xs)))
    (append_assoc (f x) (f y) (flat_map f xs))
    (subst (IsPermutation ((f x ++ f y) ++ flat_map f xs)) (append_assoc (f y) (f x)
    (flat_map f xs)) (IsPermutation-append_left (flat_map f xs) _ _
    (IsPermutation-append_comm (f x) (f y)))))
    (λ xs ys zs h k. IsPermutation-trans _ _ _ h k)

-- what comes of the second list goes after what comes of the first
pub parts_apart : {A B : Type 0} (f : A → List B) (K L : List B) (xs ys : List A) →
    K ++ ((L ++ flat_map f xs) ++ flat_map f ys) ≡ (K ++ L) ++ flat_map f (xs ++ ys)
parts_apart f K L xs ys =
    ap (λ M. K ++ M) (append_assoc L (flat_map f xs) (flat_map f ys)
    ∙ ap (λ M. L ++ M) (sym (flat_map-append f xs ys)))
    ∙ sym (append_assoc K L (flat_map f (xs ++ ys)))

pub placed-permutation : {A B : Type 0} (f : A → List B) (all its K L : List B)
    (xs ys zs : List A) → IsPermutation all (K ++ (its ++ flat_map f ys)) →
    IsPermutation its (L ++ flat_map f xs) → IsPermutation (xs ++ ys) zs →
    IsPermutation all ((K ++ L) ++ flat_map f zs)
placed-permutation f all its K L xs ys zs h k moved =
    IsPermutation-trans _ _ _ h
    (IsPermutation-trans _ _ _
    (subst (IsPermutation (K ++ (its ++ flat_map f ys))) (parts_apart f K L xs ys)
    (IsPermutation-append_right K _ _ (IsPermutation-append_left (flat_map f ys) _ _ k)))
    (IsPermutation-append_right (K ++ L) _ _ (flat_map-permutation f (xs ++ ys) zs moved)))

-- the last of the first two parts goes to the end
pub turned-permutation : {A : Type 0} (ws xs ys zs : List A) →
    IsPermutation ((ws ++ xs) ++ (ys ++ zs)) ((ws ++ ys) ++ (zs ++ xs))
turned-permutation ws xs ys zs =
    rw (append_assoc ws xs (ys ++ zs), append_assoc ws ys (zs ++ xs), ← append_assoc ys zs xs)
    (IsPermutation-append_right ws _ _ (IsPermutation-append_comm xs (ys ++ zs)))

pub filter-permutation : {A : Type 0} (test : A → Bool) (xs ys : List A) →
    IsPermutation xs ys → IsPermutation (filter test xs) (filter test ys)
filter-permutation {A} test =
    along (λ xs ys. IsPermutation (filter test xs) (filter test ys)) (λ xs. IsPermutation-refl _)
    (λ x xs ys h. more x (filter test xs) (filter test ys) (test x) h)
    (λ x y xs. turned x y (filter test xs) (test x) (test y))
    (λ xs ys zs h k. IsPermutation-trans _ _ _ h k)
  where
    more : (x : A) (K L : List A) (b : Bool) → IsPermutation K L →
        IsPermutation (cond b (x ∷ K) K) (cond b (x ∷ L) L)
    more x K L true h = IsPermutation-cons x K L h
    more x K L false h = h

    turned : (x y : A) (K : List A) (a b : Bool) →
        IsPermutation (cond a (x ∷ cond b (y ∷ K) K) (cond b (y ∷ K) K))
        (cond b (y ∷ cond a (x ∷ K) K) (cond a (x ∷ K) K))
    turned x y K true true =
        IsPermutation-append_left K _ _ (IsPermutation-append_comm (x ∷ []) (y ∷ []))
    turned x y K true false = IsPermutation-refl _
    turned x y K false b = IsPermutation-refl _

pub sum_of-permutation : (p : Program) (K L : List (List ℕ)) → IsPermutation K L →
    sum_of p K ≡ sum_of p L
sum_of-permutation p =
    along (λ K L. sum_of p K ≡ sum_of p L) (λ K. refl)
    (λ w K L h. sum_of-append p (w ∷ []) K
    ∙ (ap (join (sum_of p (w ∷ []))) h ∙ sym (sum_of-append p (w ∷ []) L)))
    (λ v w K. sum_of-append p (v ∷ w ∷ []) K
    ∙ (ap (λ (t : SummaryView). join t (sum_of p K)) (turned v w)
    ∙ sym (sum_of-append p (w ∷ v ∷ []) K)))
    (λ K L M h k. h ∙ k)
  where
    turned : (v w : List ℕ) → sum_of p (v ∷ w ∷ []) ≡ sum_of p (w ∷ v ∷ [])
    turned v w =
        sum_of-append p (v ∷ []) (w ∷ [])
        ∙ (join_comm (sum_of p (v ∷ [])) (sum_of p (w ∷ []))
        ∙ sym (sum_of-append p (w ∷ []) (v ∷ [])))

pub covers-permutation : (v : List ℕ) (xs ys : List ItemView) → IsPermutation xs ys →
    covers v xs ≡ covers v ys
covers-permutation v =
    along (λ xs ys. covers v xs ≡ covers v ys) (λ xs. refl)
    (λ x xs ys h. omega (arith, h)) (λ x y xs. omega arith) (λ xs ys zs h k. h ∙ k)
