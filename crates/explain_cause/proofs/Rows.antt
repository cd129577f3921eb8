-- Lists of which one entry changes.
use Rattle.std.specs.Prelude.{Bool, true, false, cond, ◌||◌, ◌&&◌, nat_eq, slice_index_or, slice_set, if◌then◌else◌}
use Rattle.std.proofs.Common.{◌≡◌, ℕ, zero, suc, ◌+◌, ◌<◌, List, [], ◌∷◌, length, take, get_or, inl, inr, refl, ap, ◌∙◌, sym, subst, arith}
use Rattle.std.{specs.List.count_by, proofs.lemmas.Bool.{cases_eq, cases_lt, eq-eqb, ne_eqb}}
use Rattle.std.proofs.lemmas.List.{get_or-set_same, get_or-set_other}
use Rattle.std.proofs.lemmas.List.Sums.{count_by_more_yes, count_by_more_no, sum_by-append}
use Rattle.explain_cause.specs.Causes.{any_below}

-- entry k changes so
pub entry_on : {A : Type 0} → (xs : List A) (k t : ℕ) (v d : A) (F : Bool → A → A) →
    k < length xs → ((a : A) → F false a ≡ a) → v ≡ F true (slice_index_or xs k d) →
    slice_index_or (slice_set xs k v) t d ≡ F (nat_eq k t) (slice_index_or xs t d)
entry_on {A} xs k t v d F l same is = elim (cases_eq k t) [
  | inl e ↦ subst (λ n. slice_index_or (slice_set xs k v) n d
      ≡ F (nat_eq k n) (slice_index_or xs n d)) e here
  | inr ne ↦ get_or-set_other xs k t v d (λ q. ne (sym q))
      ∙ (sym (same (slice_index_or xs t d))
      ∙ ap (λ b. F b (slice_index_or xs t d)) (sym (ne_eqb k t ne)))
]
  where
    here : slice_index_or (slice_set xs k v) k d ≡ F (nat_eq k k) (slice_index_or xs k d)
    here = get_or-set_same xs k v d l
        ∙ (is ∙ ap (λ b. F b (slice_index_or xs k d)) (sym (eq-eqb k k refl)))

-- row k changes so at x
pub row_on : {A : Type 0} → (rows : List (List A)) (k t x : ℕ) (row : List A) (d : A)
    (F : Bool → A → A) → k < length rows → ((a : A) → F false a ≡ a) →
    slice_index_or row x d ≡ F true (slice_index_or (slice_index_or rows k []) x d) →
    slice_index_or (slice_index_or (slice_set rows k row) t []) x d
    ≡ F (nat_eq k t) (slice_index_or (slice_index_or rows t []) x d)
row_on {A} rows k t x row d F l same is = elim (cases_eq k t) [
  | inl e ↦ subst (λ n. slice_index_or (slice_index_or (slice_set rows k row) n []) x d
      ≡ F (nat_eq k n) (slice_index_or (slice_index_or rows n []) x d)) e here
  | inr ne ↦ ap (λ r. slice_index_or r x d) (get_or-set_other rows k t row [] (λ q. ne (sym q)))
      ∙ (sym (same (slice_index_or (slice_index_or rows t []) x d))
      ∙ ap (λ b. F b (slice_index_or (slice_index_or rows t []) x d)) (sym (ne_eqb k t ne)))
]
  where
    here : slice_index_or (slice_index_or (slice_set rows k row) k []) x d
        ≡ F (nat_eq k k) (slice_index_or (slice_index_or rows k []) x d)
    here = ap (λ r. slice_index_or r x d) (get_or-set_same rows k row [] l)
        ∙ (is ∙ ap (λ b. F b (slice_index_or (slice_index_or rows k []) x d))
        (sym (eq-eqb k k refl)))

-- nothing is added by another one
pub or_none : (mark after : Bool) → ((mark && false) || (true && after)) ≡ after
or_none true after = refl
or_none false after = refl

-- the first one counts or not, and the others
pub count_first : {X : Type 0} → (f : X → Bool) (x : X) (xs : List X) →
    count_by f (x ∷ xs) ≡ cond (f x) 1 0 + count_by f xs
count_first f x xs = let h : count_by f (x ∷ xs) ≡ 0 + cond {A = ℕ} (f x) 1 0 + count_by f xs
    = sum_by-append (λ y. cond (f y) 1 0) (x ∷ []) xs in omega (arith, h)

-- one event more is counted
pub counted_on : {X : Type 0} → (f : X → Bool) (xs : List X) (i : ℕ) (d : X) (n m : ℕ) →
    i < length xs → n ≡ count_by f (take i xs) →
    m ≡ (if f (get_or xs i d) then n + 1 else n) → m ≡ count_by f (take (i + 1) xs)
counted_on {X} f xs i d n m l e is = split (f (get_or xs i d)) refl is
  where
    split : (b : Bool) → f (get_or xs i d) ≡ b → m ≡ (if b then n + 1 else n) →
        m ≡ count_by f (take (i + 1) xs)
    split true h g = g ∙ (ap (λ k. k + 1) e ∙ sym (count_by_more_yes f xs i d l h))
    split false h g = g ∙ (e ∙ sym (count_by_more_no f xs i d l h))

-- the entries up to i are so, and now entry i is
pub done_on : {A : Type 0} → (xs : List A) (i : ℕ) (v d : A) (f : ℕ → A) → i < length xs →
    ((k : ℕ) → k < i → slice_index_or xs k d ≡ f k) → v ≡ f i →
    (k : ℕ) → k < i + 1 → slice_index_or (slice_set xs i v) k d ≡ f k
done_on xs i v d f l before is k m = elim (cases_eq k i) [
  | inl e ↦ subst (λ n. slice_index_or (slice_set xs i v) n d ≡ f n) (sym e)
      (get_or-set_same xs i v d l ∙ is)
  | inr ne ↦ get_or-set_other xs i k v d ne ∙ before k (less k i m ne)
]
  where
    less : (k i : ℕ) → k < i + 1 → (k ≡ i → ⊥) → k < i
    less k i m ne = elim (cases_lt k i) [
      | inl a ↦ a
      | inr b ↦ absurd (ne (let e : k ≡ i = omega (arith, m, b) in e))
    ]

-- one of the numbers below n is so
pub true_below : (f : ℕ → Bool) (n u : ℕ) → u < n → f u ≡ true → any_below f n ≡ true
true_below f zero u a h = absurd (omega (arith, a))
true_below f (suc n) u a h = elim (cases_eq u n) [
  | inl e ↦ right (any_below f n) (f n) (subst (λ v. f v ≡ true) e h)
  | inr ne ↦ left (any_below f n) (f n) (true_below f n u (less ne) h)
]
  where
    right : (x y : Bool) → y ≡ true → (x || y) ≡ true
    right true y e = refl
    right false y e = e

    left : (x y : Bool) → x ≡ true → (x || y) ≡ true
    left x y e = ap (λ b. b || y) e

    less : (u ≡ n → ⊥) → u < n
    less ne = elim (cases_lt u n) [
      | inl c ↦ c
      | inr b ↦ absurd (ne (let e : u ≡ n = omega (arith, a, b) in e))
    ]
