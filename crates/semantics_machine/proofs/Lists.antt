-- Lists of which one element is written.
use Rattle.std.proofs.Common.{◌≡◌, ◌≢◌, ℕ, zero, suc, ◌<◌, ◌≤◌, Bool, true, false, cond, ◌&&◌, nat_eq, List, [], ◌∷◌, length, replicate, Some, None, slice_get, get_or, set, refl, ap, ◌∙◌, sym, arith, get_or-set_same, get_or-set_other, inl, inr}
use Rattle.std.proofs.lemmas.Bool.{cases_lt, cases_order, Decides.nat_tests}
use Rattle.std.proofs.lemmas.List.{get_or_past, get_or-replicate, length-replicate}
use Rattle.semantics.specs.{Mask.{has, no_threads}, declared.mask.Mask.Mask}

-- what holds of the element that is written, and of the others, holds of each
pub by_place : {A : Type 0} (P : ℕ → A → Type 0) (xs : List A) (m : ℕ) (v d : A) → m < length xs
    → P m v → ((k : ℕ) → k ≢ m → P k (get_or xs k d)) → (k : ℕ) → P k (get_or (set xs m v) k d)
by_place P xs m v d l here there k = elim (cases_order k m) [
  | inl e ↦ rw e (rw (get_or-set_same xs m v d l) here)
  | inr (inl a) ↦ other (omega arith)
  | inr (inr a) ↦ other (omega arith)
]
  where
    other : k ≢ m → P k (get_or (set xs m v) k d)
    other ne = rw (get_or-set_other xs m k v d ne) (there k ne)

-- lists that agree, after the same write
pub same_set : {A : Type 0} (xs ys : List A) (m : ℕ) (v d : A)
    → ((k : ℕ) → get_or xs k d ≡ get_or ys k d) → m < length xs → m < length ys
    → (k : ℕ) → get_or (set xs m v) k d ≡ get_or (set ys m v) k d
same_set xs ys m v d same l h = by_place (λ k x. x ≡ get_or (set ys m v) k d) xs m v d l
    (sym (get_or-set_same ys m v d h))
    (λ k ne. same k ∙ sym (get_or-set_other ys m k v d ne))

-- a set that has u as the one before it did
pub set_has : (ms : List Mask) (m u : ℕ) (v : Mask) → m < length ms
    → has v u ≡ has (get_or ms m no_threads) u
    → (n : ℕ) → has (get_or (set ms m v) n no_threads) u ≡ has (get_or ms n no_threads) u
set_has ms m u v l e =
    by_place (λ n w. has w u ≡ has (get_or ms n no_threads) u) ms m v no_threads l e (λ n ne. refl)

-- a set that u is put into, or taken out of
pub set_there : (ms : List Mask) (m u : ℕ) (v : Mask) (b : Bool) → m < length ms → has v u ≡ b
    → ((n : ℕ) → nat_eq m n ≡ false → has (get_or ms n no_threads) u ≡ false)
    → (n : ℕ) → has (get_or (set ms m v) n no_threads) u ≡ (nat_eq m n && b)
set_there ms m u v b l e off = by_place (λ n w. has w u ≡ (nat_eq m n && b)) ms m v no_threads l
    (e ∙ sym (ap (λ q. q && b) (let z : nat_eq m m ≡ true = grind (arith, nat_tests) in z)))
    (λ n ne. let z : nat_eq m n ≡ false = grind (arith, nat_tests, ne) in
    off n z ∙ sym (ap (λ q. q && b) z))

-- a test of an element, after a write
pub test_set : {A : Type 0} (f : A → Bool) (xs : List A) (m : ℕ) (v d : A) → m < length xs
    → (k : ℕ) → f (get_or (set xs m v) k d) ≡ cond (nat_eq k m) (f v) (f (get_or xs k d))
test_set f xs m v d l =
    by_place (λ k x. f x ≡ cond (nat_eq k m) (f v) (f (get_or xs k d))) xs m v d l
    (let z : nat_eq m m ≡ true = grind (arith, nat_tests) in
    ap (λ b. cond b (f v) (f (get_or xs m d))) (sym z))
    (λ k ne. let z : nat_eq k m ≡ false = grind (arith, nat_tests, ne) in
    ap (λ b. cond b (f v) (f (get_or xs k d))) (sym z))

pub set_twice : {A : Type 0} (xs : List A) (n : ℕ) (a b : A) → set (set xs n a) n b ≡ set xs n b
set_twice [] n a b = refl
set_twice (x ∷ xs) zero a b = refl
set_twice (x ∷ xs) (suc n) a b = ap (λ ys. x ∷ ys) (set_twice xs n a b)

-- each element, also one past the end, where all are the default
pub same_all : {A : Type 0} (n i : ℕ) (d : A) → get_or (replicate n d) i d ≡ d
same_all n i d = elim (cases_lt i n) [
  | inl l ↦ get_or-replicate n i d d l
  | inr g ↦ get_or_past (replicate n d) i d (omega (arith, g, length-replicate n d))
]

-- a read of an element
pub read_at : {A : Type 0} (xs : List A) (n : ℕ) (d : A) → n < length xs
    → slice_get xs n ≡ Some (get_or xs n d)
read_at [] n d l = absurd (omega arith)
read_at (y ∷ ys) zero d l = refl
read_at (y ∷ ys) (suc n) d l = read_at ys n d (omega arith)

pub read_past : {A : Type 0} (xs : List A) (n : ℕ) → length xs ≤ n → slice_get xs n ≡ None
read_past [] n l = refl
read_past (y ∷ ys) zero l = absurd (omega arith)
read_past (y ∷ ys) (suc n) l = read_past ys n (omega arith)
