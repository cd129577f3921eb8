-- What comes after a schedule.
use Rattle.std.proofs.Common.{◌≡◌, ℕ, suc, ◌+◌, ◌-◌, ◌<◌, ◌≤◌, Bool, true, false, cond, not, ◌&&◌, ◌||◌, nat_eq, nat_lt, List, [], ◌∷◌, ◌++◌, length, take, get_or, refl, ◌∙◌, sym, ap, arith}
use Rattle.std.{specs.List.{filter, count_by}, proofs.Math.Seq.take-suc}
use Rattle.std.proofs.lemmas.Bool.Decides.{nat_tests}
use Rattle.std.proofs.lemmas.List.{append-nil, take_at, take_all, length_push, get_or_push}
use Rattle.std.proofs.lemmas.List.{Elements.filter-append, Sums.sum_by-append}
use Rattle.walk_prefixes.specs.PrefixLists.{common_length, is_later, last_of}

-- it differs at the first place at which the two aren't alike
pub later_at : (w p : List ℕ) → common_length w p < length w → common_length w p < length p →
    nat_lt (get_or w (common_length w p) 0) (get_or p (common_length w p) 0) ≡ is_later w p
unfolding common_length
later_at [] p l h = absurd (omega (arith, l))
later_at (u ∷ w) [] l h = absurd (omega (arith, h))
later_at (u ∷ w) (t ∷ p) l h =
    go (nat_eq u t) refl l h (λ x y. later_at w p x y)
  where
    or_false : (b : Bool) → b ≡ (b || false)
    or_false true = refl
    or_false false = refl

    go : (b : Bool) → nat_eq u t ≡ b → cond b (suc (common_length w p)) 0 < suc (length w) →
        cond b (suc (common_length w p)) 0 < suc (length p) →
        (common_length w p < length w → common_length w p < length p →
        nat_lt (get_or w (common_length w p) 0) (get_or p (common_length w p) 0) ≡ is_later w p) →
        nat_lt (get_or (u ∷ w) (cond b (suc (common_length w p)) 0) 0)
        (get_or (t ∷ p) (cond b (suc (common_length w p)) 0) 0)
        ≡ (nat_lt u t || (b && is_later w p))
    go true e x y f =
        let n : nat_lt u t ≡ false = grind (arith, nat_tests, e) in
        f (omega (arith, x)) (omega (arith, y)) ∙ sym (λ i. n i || is_later w p)
    go false e x y f = or_false (nat_lt u t)

-- it doesn't where one is alike to its end
pub never_later : (w p : List ℕ) → common_length w p ≡ length w → is_later w p ≡ false
unfolding common_length
never_later [] p e = refl
never_later (u ∷ w) [] e = refl
never_later (u ∷ w) (t ∷ p) e = go (nat_eq u t) refl e (λ x. never_later w p x)
  where
    go : (b : Bool) → nat_eq u t ≡ b → cond b (suc (common_length w p)) 0 ≡ suc (length w) →
        (common_length w p ≡ length w → is_later w p ≡ false) →
        (nat_lt u t || (b && is_later w p)) ≡ false
    go true k x f =
        let n : nat_lt u t ≡ false = grind (arith, nat_tests, k) in
        (λ i. n i || is_later w p) ∙ f (omega (arith, x))
    go false k x f = absurd (omega (arith, x))

pub never_past : (w p : List ℕ) → common_length w p ≡ length p → is_later w p ≡ false
unfolding common_length
never_past [] p e = refl
never_past (u ∷ w) [] e = refl
never_past (u ∷ w) (t ∷ p) e = go (nat_eq u t) refl e (λ x. never_past w p x)
  where
    go : (b : Bool) → nat_eq u t ≡ b → cond b (suc (common_length w p)) 0 ≡ suc (length p) →
        (common_length w p ≡ length p → is_later w p ≡ false) →
        (nat_lt u t || (b && is_later w p)) ≡ false
    go true k x f =
        let n : nat_lt u t ≡ false = grind (arith, nat_tests, k) in
        (λ i. n i || is_later w p) ∙ f (omega (arith, x))
    go false k x f = absurd (omega (arith, x))

-- either may be first
pub common_turned : (w p : List ℕ) → common_length w p ≡ common_length p w
unfolding common_length
common_turned [] [] = refl
common_turned [] (t ∷ p) = refl
common_turned (u ∷ w) [] = refl
common_turned (u ∷ w) (t ∷ p) =
    (λ i. cond (same i) (suc (common_turned w p i)) 0)
  where
    same : nat_eq u t ≡ nat_eq t u
    same = grind (arith, nat_tests)

pub common_short : (w p : List ℕ) → common_length w p ≤ length w
unfolding common_length
common_short [] p = omega arith
common_short (u ∷ w) [] = omega arith
common_short (u ∷ w) (t ∷ p) = go (nat_eq u t) (common_short w p)
  where
    go : (b : Bool) → common_length w p ≤ length w →
        cond b (suc (common_length w p)) 0 ≤ suc (length w)
    go true h = omega (arith, h)
    go false h = omega arith

pub count_first : {A : Type 0} (f : A → Bool) (x : A) (xs : List A) →
    count_by f (x ∷ xs) ≡ (0 + cond (f x) 1 0) + count_by f xs
count_first f x xs = sum_by-append _ (x ∷ []) xs

pub left_and_dropped : {A : Type 0} (f : A → Bool) (xs : List A) →
    length (filter (λ i. not (f i)) xs) + count_by f xs ≡ length xs
left_and_dropped f [] = refl
left_and_dropped f (x ∷ xs) =
    ap (λ n. length (filter (λ i. not (f i)) (x ∷ xs)) + n) (count_first f x xs)
    ∙ go (f x) (left_and_dropped f xs)
  where
    go : (b : Bool) → length (filter (λ i. not (f i)) xs) + count_by f xs ≡ length xs →
        length (cond (not b) (x ∷ filter (λ i. not (f i)) xs) (filter (λ i. not (f i)) xs))
        + ((0 + cond b 1 0) + count_by f xs) ≡ suc (length xs)
    go true r = omega (arith, r)
    go false r = omega (arith, r)

-- the list without its last one, and that
last_apart : (r : List (List ℕ)) → 0 < length r → r ≡ take (length r - 1) r ++ last_of r ∷ []
last_apart r some =
    let e : length r ≡ suc (length r - 1) = omega (arith, some) in
    sym (take_all (length r) r (omega arith))
    ∙ (ap (λ n. take n r) e ∙ take-suc r (length r - 1) [] (omega (arith, some)))

pub last_same : (xs : List (List ℕ)) (x : List ℕ) → last_of (xs ++ x ∷ []) ≡ x
last_same xs x = get_or_push xs x [] _ (omega (arith, length_push xs x))

-- those before the last one are looked at, and then that one is
pub last_too : (s : List ℕ) (old mid new : List (List ℕ)) (g : Bool) → 0 < length old →
    mid ≡ filter (λ p. not (is_later s p)) (take (length old - 1) old) ++ last_of old ∷ [] →
    is_later s (last_of old) ≡ g → new ≡ cond g (take (length mid - 1) mid) mid →
    new ≡ filter (λ p. not (is_later s p)) old
last_too s old mid new g some e h n =
    n ∙ (go g h ∙ sym (ap (filter f) (last_apart old some)
    ∙ filter-append f (take (length old - 1) old) (last_of old ∷ [])))
  where
    f : List ℕ → Bool
    f = λ p. not (is_later s p)

    before : List (List ℕ)
    before = filter f (take (length old - 1) old)

    go : (b : Bool) → is_later s (last_of old) ≡ b → cond b (take (length mid - 1) mid) mid
        ≡ before ++ filter f (last_of old ∷ [])
    go true h =
        let k : length mid - 1 ≡ length before =
        omega (arith, ap length e, length_push before (last_of old)) in
        (λ i. take (k i) (e i)) ∙ (take_at before (last_of old ∷ []) (length before) refl
        ∙ (sym (append-nil before)
        ∙ (λ i. before ++ cond (not (sym h i)) (last_of old ∷ []) [])))
    go false h = e ∙ (λ i. before ++ cond (not (sym h i)) (last_of old ∷ []) [])
