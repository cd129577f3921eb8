-- The elements of a list to which one more was added.
use Rattle.std.specs.Prelude.{unwrap_or}
use Rattle.std.proofs.Common.{◌≤◌, take, drop, append-nil, length-append, get_or, Option, ◌∙◌, ◌≡◌, ◌⊎◌, ℕ, zero, suc, ◌+◌, List, [], ◌∷◌, ◌++◌, length, Some, None, refl, ap, inl, inr, arith}
use Rattle.std.{specs.List.slice_get, proofs.lemmas.List.take_all}

-- each is one of those before, or the new one
pub pushed_at : {A : Type 0} → (xs : List A) (x : A) (k : ℕ) (y : A) →
    slice_get (xs ++ x ∷ []) k ≡ Some y →
    (slice_get xs k ≡ Some y) ⊎ ((k ≡ length xs) × (x ≡ y))
pushed_at [] x zero y h = inr (refl, ap (λ o. unwrap_or o x) h)
pushed_at [] x (suc k) y h = absurd cc
pushed_at (z ∷ xs) x zero y h = inl h
pushed_at (z ∷ xs) x (suc k) y h = elim (pushed_at xs x k y h) [
  | inl old ↦ inl old
  | inr new ↦ inr (let e : suc k ≡ length (z ∷ xs) = omega (arith, new.0) in (e, new.1))
]

-- an option pushed onto a list of options
pub pushed_option : {A : Type 0} → (xs : List (Option A)) (x : Option A) (k : ℕ) (y : A) →
    get_or (xs ++ x ∷ []) k None ≡ Some y →
    (get_or xs k None ≡ Some y) ⊎ ((k ≡ length xs) × (x ≡ Some y))
pushed_option [] x zero y h = inr (refl, h)
pushed_option [] x (suc k) y h = inl h
pushed_option (z ∷ xs) x zero y h = inl h
pushed_option (z ∷ xs) x (suc k) y h = elim (pushed_option xs x k y h) [
  | inl old ↦ inl old
  | inr new ↦ inr (let e : suc k ≡ length (z ∷ xs) = omega (arith, new.0) in (e, new.1))
]

-- with one more element, a list is one longer
pub one_longer : {A : Type 0} → (xs more : List A) (x : A) (n : ℕ) → more ≡ xs ++ x ∷ [] →
    length xs ≡ n → length more ≡ n + 1
one_longer xs more x n e h = ap length e ∙ (length-append xs (x ∷ []) ∙ ap (λ k. k + 1) h)

-- a list written back over one of its length
gone : {A : Type 0} → (xs : List A) (k : ℕ) → length xs ≤ k → drop k xs ≡ []
gone [] zero l = refl
gone [] (suc k) l = refl
gone (x ∷ xs) zero l = absurd (omega (arith, l))
gone (x ∷ xs) (suc k) l = gone xs k (let h : length xs ≤ k = omega (arith, l) in h)

pub written_back : {A : Type 0} → (n : ℕ) (old new : List A) → length new ≡ length old →
    length old ≡ n → take n (new ++ drop (length new) old) ≡ new
written_back n old new e f =
    ap (λ rest. take n (new ++ rest))
    (gone old (length new) (let l : length old ≤ length new = omega (arith, e) in l))
    ∙ (ap (take n) (append-nil new)
    ∙ take_all n new (let l : length new ≤ n = omega (arith, e, f) in l))
