-- Sums over lists, and how often a number is in one.
use Rattle.std.proofs.Common.{◌≡◌, ◌≢◌, ℕ, zero, suc, ◌+◌, ◌<◌, ◌≤◌, eqb, cond, List, [], ◌∷◌, ◌++◌, length, get_or, set, sym, refl, ap, ◌∙◌, arith, eq-eqb, ne_eqb, Some}
use Rattle.std.specs.List.{All, Contains, sum_by, flat_map}
use Rattle.std.proofs.lemmas.List.Elements.{All-pop, All-contains}
use Rattle.std.proofs.lemmas.List.Sums.{sum_by-cons, sum_by-append, sum_by_push}
use mathlib.Core.{Logic.dite, Option.{some, some-injective, some-ne-none}}
use native.Mathlib.Decide.{ℕ_discrete}
use lib.ListN.{get_elem?}
use Rattle.board.specs.Claims.{times, IsOneBelow}

module _ {X : Type 0} (f : X → ℕ) where
  pub sum_by-replaced : (l : List X) (i : ℕ) (v w : X) → get_elem? l i ≡ some v →
      sum_by f (set l i w) + f v ≡ sum_by f l + f w
  sum_by-replaced [] i v w e = absurd (some-ne-none v (sym e))
  sum_by-replaced (x ∷ xs) zero v w e =
      let is : f x ≡ f v = ap f (some-injective x v e) in
      let old = sum_by-cons f x xs in let new = sum_by-cons f w xs in omega arith
  sum_by-replaced (x ∷ xs) (suc i) v w e =
      let r = sum_by-replaced xs i v w e in
      let old = sum_by-cons f x xs in let new = sum_by-cons f x (set xs i w) in omega arith

  pub at-le-sum_by : (l : List X) (i : ℕ) (v : X) → get_elem? l i ≡ some v → f v ≤ sum_by f l
  at-le-sum_by [] i v e = absurd (some-ne-none v (sym e))
  at-le-sum_by (x ∷ xs) zero v e =
      let is : f x ≡ f v = ap f (some-injective x v e) in
      let sum = sum_by-cons f x xs in omega arith
  at-le-sum_by (x ∷ xs) (suc i) v e =
      let r = at-le-sum_by xs i v e in let sum = sum_by-cons f x xs in omega arith

  pub sum_by-popped : (old new : List X) (x : X) → old ≡ new ++ x ∷ [] →
      f x + sum_by f new ≡ sum_by f old
  sum_by-popped old new x e =
      let a = sum_by_push f new x in
      let b : sum_by f old ≡ sum_by f (new ++ x ∷ []) = ap (sum_by f) e in omega arith

-- where the others have nothing of g, and so nothing of f
pub sum_by-none : {X : Type 0} (f g : X → ℕ) (l : List X) →
    ((i : ℕ) (u : X) → get_elem? l i ≡ some u → g u ≡ 0 → f u ≡ 0) →
    sum_by g l ≡ 0 → sum_by f l ≡ 0
sum_by-none f g [] all none = refl
sum_by-none f g (x ∷ xs) all none =
    let here = all 0 x refl in let of_g = sum_by-cons g x xs in let of_f = sum_by-cons f x xs in
    let a : g x ≡ 0 = omega arith in let h : f x ≡ 0 = here a in
    let r = sum_by-none f g xs (λ i u at. all (suc i) u at) (omega arith) in omega arith

pub All-popped : {X : Type 0} (P : X → Type 0) (old new : List X) (x : X) → old ≡ new ++ x ∷ [] →
    All P old → All P new × P x
All-popped P old new x e all = let r = All-pop P old new (Some x) e all in (r.0, r.1)

-- how often a number is in a list

pub hit_yes : (x y : ℕ) → y ≡ x → cond {A = ℕ} (eqb y x) 1 0 ≡ 1
hit_yes x y e = ap (λ b. cond b 1 0) (eq-eqb y x e)

pub hit_no : (x y : ℕ) → y ≢ x → cond {A = ℕ} (eqb y x) 1 0 ≡ 0
hit_no x y n = ap (λ b. cond b 1 0) (ne_eqb y x n)

pub times-cons : (x y : ℕ) (ys : List ℕ) → times x (y ∷ ys) ≡ cond (eqb y x) 1 0 + times x ys
times-cons x y ys = sum_by-cons (λ z. cond (eqb z x) 1 0) y ys

pub times-append : (x : ℕ) (ys zs : List ℕ) → times x (ys ++ zs) ≡ times x ys + times x zs
times-append x ys zs = sum_by-append (λ z. cond (eqb z x) 1 0) ys zs

pub times_push : (x : ℕ) (ys : List ℕ) (y : ℕ) →
    times x (ys ++ y ∷ []) ≡ times x ys + cond (eqb y x) 1 0
times_push x ys y = sum_by_push (λ z. cond (eqb z x) 1 0) ys y

pub times-flat_map : {X : Type 0} (f : X → List ℕ) (x : ℕ) (l : List X) →
    times x (flat_map f l) ≡ sum_by (λ v. times x (f v)) l
times-flat_map f x [] = refl
times-flat_map f x (v ∷ vs) =
    let r = times-flat_map f x vs in let a = times-append x (f v) (flat_map f vs) in
    let b = sum_by-cons (λ u. times x (f u)) v vs in omega arith

-- a number that is in the list once or more is one of it
pub Contains-times : (xs : List ℕ) (x : ℕ) → 0 < times x xs → Contains xs x
Contains-times [] x some_x = absurd (omega arith)
Contains-times (y ∷ ys) x some_x = let c = times-cons x y ys in dite (ℕ_discrete y x)
    (λ e. (0, omega arith, e))
    (λ n. let z = hit_no x y n in let r = Contains-times ys x (omega arith) in
    let lt = r.1 in (suc r.0, omega arith, r.2))

pub times-Contains : (xs : List ℕ) (x : ℕ) → Contains xs x → 0 < times x xs
times-Contains [] x at = let lt = at.1 in absurd (omega arith)
times-Contains (y ∷ ys) x (zero, lt, e) =
    let c = times-cons x y ys in let h = hit_yes x y e in omega arith
times-Contains (y ∷ ys) x (suc k, lt, e) =
    let r = times-Contains ys x (k, omega arith, e) in let c = times-cons x y ys in omega arith

pub times-at : (xs : List ℕ) (k d : ℕ) → k < length xs → 0 < times (get_or xs k d) xs
times-at [] k d h = absurd (omega arith)
times-at (x ∷ xs) zero d h =
    let one = hit_yes x x refl in let c = times-cons x x xs in omega arith
times-at (x ∷ xs) (suc k) d h =
    let r = times-at xs k d (omega arith) in
    let c = times-cons (get_or xs k d) x xs in omega arith

-- what holds of each number of a list, where all that are in it are in another
pub All-by_times : (P : ℕ → Type 0) (xs ys : List ℕ) →
    ((x : ℕ) → times x ys ≡ times x xs) → All P xs → All P ys
All-by_times P xs ys same all k d lt =
    let there = times-at ys k d lt in let e = same (get_or ys k d) in
    All-contains P xs (get_or ys k d) all (Contains-times xs (get_or ys k d) (omega arith))

-- where no number from m on is in the list, all are below m
pub All-below : (m : ℕ) (xs : List ℕ) → ((x : ℕ) → m ≤ x → times x xs ≡ 0) → All (λ x. x < m) xs
All-below m xs none k d h =
    let y : ℕ = get_or xs k d in let some_y : 0 < times y xs = times-at xs k d h in
    let n : m ≤ y → times y xs ≡ 0 = none y in grind arith

-- one more number
pub one_more : (m : ℕ) (f g : ℕ → ℕ) → IsOneBelow m f →
    ((x : ℕ) → g x ≡ f x + cond (eqb m x) 1 0) → IsOneBelow (m + 1) g
one_more m f g once step = record {
  one = λ x lt. let s = step x in dite (ℕ_discrete m x)
      (λ e. let h = hit_yes x m e in let o = once.no_other x (omega arith) in omega arith)
      (λ n. let h = hit_no x m n in let o = once.one x (omega arith) in omega arith);
  no_other = λ x ge. let s = step x in let h = hit_no x m (λ e. absurd (omega arith)) in
      let o = once.no_other x (omega arith) in omega arith;
}

-- other counts, each the same
pub one_same : (m : ℕ) (f g : ℕ → ℕ) → IsOneBelow m f → ((x : ℕ) → g x ≡ f x) → IsOneBelow m g
one_same m f g once same = record {
  one = λ x lt. same x ∙ once.one x lt;
  no_other = λ x ge. same x ∙ once.no_other x ge;
}
