-- How many steps two prefixes begin with alike.
use Rattle.std.proofs.Common.{◌≡◌, ℕ, zero, suc, ◌+◌, ◌-◌, ◌<◌, ◌≤◌, Bool, true, false, cond, nat_eq, List, [], ◌∷◌, ◌++◌, length, get_or, take, drop, refl, ap, sym, ◌∙◌, subst, arith, inl, inr}
use Rattle.std.proofs.lemmas.Bool.{cases_lt, Decides.nat_tests}
use Rattle.std.proofs.lemmas.List.{take_rest, length-take, length-take-le, length-drop, get_or-take, get_or-drop, get_or_past}
use Rattle.std.proofs.lemmas.Nat.{le_bytes_8}
use Rattle.walk_prefixes.specs.PrefixLists.{common_length}
use Rattle.walk_prefixes.specs.inner.Packed.{number_at, before, tail_of, start_of, end_of, dropped_of}

pub common_is : (n : ℕ) (a b : List ℕ) → n ≤ length a → n ≤ length b → take n a ≡ take n b →
    (n < length a → n < length b → get_or a n 0 ≡ get_or b n 0 → ⊥) → common_length a b ≡ n
unfolding common_length
common_is n [] b la lb e d = omega arith
common_is n (x ∷ p) [] la lb e d = omega arith
common_is zero (x ∷ p) (y ∷ w) la lb e d =
    let differ : x ≡ y → ⊥ = d (omega arith) (omega arith) in
    let n : nat_eq x y ≡ false = grind (arith, nat_tests, differ) in
    λ i. cond (n i) (suc (common_length p w)) 0
common_is (suc n) (x ∷ p) (y ∷ w) la lb e d =
    let head : x ≡ y = cc in
    let tail : take n p ≡ take n w = cc in
    let same : nat_eq x y ≡ true = grind (arith, nat_tests, head) in
    (λ i. cond (same i) (suc (common_length p w)) 0)
    ∙ ap (λ m. suc m) (common_is n p w (omega arith) (omega arith) tail
    (λ g h f. d (omega arith) (omega arith) f))

-- what is cut out of bytes are bytes
inside : (m n : ℕ) (c : List ℕ) → ((i : ℕ) → get_or c i 0 < 256) → (i : ℕ)
    → get_or (take m (drop n c)) i 0 < 256
inside m n c f i = elim (cases_lt i m) [
  | inl l ↦ subst (λ x. x < 256) (sym (get_or-take m (drop n c) i 0 l ∙ get_or-drop n c i 0))
      (f (n + i))
  | inr l ↦ subst (λ x. x < 256) (sym (get_or_past (take m (drop n c)) i 0
      (omega (arith, l, length-take m (drop n c))))) (omega arith)
]

-- eight bytes of each of two lists, read as the same number, are the same
pub same_eight : (n : ℕ) (a b : List ℕ) → n + 8 ≤ length a → n + 8 ≤ length b
    → ((i : ℕ) → get_or a i 0 < 256) → ((i : ℕ) → get_or b i 0 < 256)
    → number_at n a ≡ number_at n b → take 8 (drop n a) ≡ take 8 (drop n b)
unfolding number_at
same_eight n a b la lb fa fb e =
    sym (le_bytes_8 (take 8 (drop n a)) _ (long a la) (inside 8 n a fa) refl)
    ∙ le_bytes_8 (take 8 (drop n b)) _ (long b lb) (inside 8 n b fb) e
  where
    long : (c : List ℕ) → n + 8 ≤ length c → length (take 8 (drop n c)) ≡ 8
    long c l = length-take-le 8 (drop n c) (omega (arith, l, length-drop n c))

-- prefixes that are alike to the end of both are equal
pub same_where : (a b : List ℕ) → common_length a b ≡ length a → length a ≡ length b → a ≡ b
unfolding common_length
same_where [] [] e l = refl
same_where [] (y ∷ w) e l = absurd (omega arith)
same_where (x ∷ p) [] e l = absurd (omega arith)
same_where (x ∷ p) (y ∷ w) e l =
    go (nat_eq x y) refl e (λ k. same_where p w k (omega (arith, l)))
  where
    go : (t : Bool) → nat_eq x y ≡ t → cond t (suc (common_length p w)) 0 ≡ suc (length p) →
        (common_length p w ≡ length p → p ≡ w) → x ∷ p ≡ y ∷ w
    go true q e f =
        let head : x ≡ y = grind (arith, nat_tests, q) in
        let tail : p ≡ w = f (omega (arith, e)) in
        λ i. head i ∷ tail i
    go false q e f = absurd (omega (arith, e))

pub where_same : (a : List ℕ) → common_length a a ≡ length a
unfolding common_length
where_same [] = refl
where_same (x ∷ p) =
    let same : nat_eq x x ≡ true = grind (arith, nat_tests) in
    (λ i. cond (same i) (suc (common_length p p)) 0) ∙ ap (λ m. suc m) (where_same p)

-- where two differ within what is kept of one, what comes after that doesn't matter
pub common_kept : (k : ℕ) (a t w : List ℕ) → k ≤ length a → common_length a w < k →
    common_length (take k a ++ t) w ≡ common_length a w
unfolding common_length
common_kept zero a t w l h = absurd (omega arith)
common_kept (suc k) [] t w l h = absurd (omega arith)
common_kept (suc k) (x ∷ p) t [] l h = refl
common_kept (suc k) (x ∷ p) t (y ∷ w) l h =
    go (nat_eq x y) h (λ g. common_kept k p t w (omega (arith, l)) g)
  where
    go : (b : Bool) → cond b (suc (common_length p w)) 0 < suc k →
        (common_length p w < k → common_length (take k p ++ t) w ≡ common_length p w) →
        cond b (suc (common_length (take k p ++ t) w)) 0 ≡ cond b (suc (common_length p w)) 0
    go true h f = ap (λ m. suc m) (f (omega (arith, h)))
    go false h f = refl

-- where all that is kept is alike, what comes after it goes on
pub common_past : (k : ℕ) (a t w : List ℕ) → k ≤ length a → k ≤ common_length a w →
    common_length (take k a ++ t) w ≡ k + common_length t (drop k w)
unfolding common_length
common_past zero a t w l h = omega arith
common_past (suc k) [] t w l h = absurd (omega arith)
common_past (suc k) (x ∷ p) t [] l h = absurd (omega arith)
common_past (suc k) (x ∷ p) t (y ∷ w) l h =
    go (nat_eq x y) h (λ g. common_past k p t w (omega (arith, l)) g)
  where
    go : (b : Bool) → suc k ≤ cond b (suc (common_length p w)) 0 →
        (k ≤ common_length p w →
        common_length (take k p ++ t) w ≡ k + common_length t (drop k w)) →
        cond b (suc (common_length (take k p ++ t) w)) 0 ≡ suc k + common_length t (drop k w)
    go true h f = omega (arith, f (omega (arith, h)))
    go false h f = absurd (omega (arith, h))

-- the same at the prefix before another
pub kept_before : (kept : ℕ) (bytes last wanted : List ℕ) → kept ≡ length last - dropped_of bytes →
    common_length last wanted < kept →
    common_length last wanted ≡ common_length (before bytes last) wanted
kept_before kept bytes last wanted e l =
    sym (common_kept (length last - dropped_of bytes) last (tail_of bytes) wanted (omega arith)
    (omega (arith, e, l)))

pub past_before : (kept more start end : ℕ) (bytes last wanted : List ℕ) → start ≡ start_of bytes →
    end ≡ end_of bytes → kept ≡ length last - dropped_of bytes →
    kept ≤ common_length last wanted →
    more ≡ common_length (take (end - start) (drop start bytes))
    (take (length wanted - kept) (drop kept wanted)) →
    kept + more ≡ common_length (before bytes last) wanted
past_before kept more start end bytes last wanted es ee ek le em =
    let m : more ≡ common_length (tail_of bytes) (drop kept wanted) =
    em ∙ (λ i. common_length (take (ee i - es i) (drop (es i) bytes)) (take_rest wanted kept i)) in
    let p : common_length (take kept last ++ tail_of bytes) wanted
    ≡ kept + common_length (tail_of bytes) (drop kept wanted) =
    common_past kept last (tail_of bytes) wanted (omega (arith, ek)) le in
    ap (λ x. kept + x) m
    ∙ (sym p ∙ ap (λ k. common_length (take k last ++ tail_of bytes) wanted) ek)

get_or_left : (xs ys : List ℕ) (n : ℕ) → n < length xs → get_or (xs ++ ys) n 0 ≡ get_or xs n 0
get_or_left [] ys n l = absurd (omega (arith, l))
get_or_left (x ∷ xs) ys zero l = refl
get_or_left (x ∷ xs) ys (suc n) l = get_or_left xs ys n (omega (arith, l))

get_or_right : (xs ys : List ℕ) (k n : ℕ) → k ≡ length xs + n → get_or (xs ++ ys) k 0 ≡ get_or ys n 0
get_or_right [] ys k n e = ap (λ j. get_or ys j 0) (omega (arith, e))
get_or_right (x ∷ xs) ys zero n e = absurd (omega (arith, e))
get_or_right (x ∷ xs) ys (suc k) n e = get_or_right xs ys k n (omega (arith, e))

-- the step at a place of the prefix before another, where that is kept
pub next_kept : (kept n : ℕ) (bytes last : List ℕ) → kept ≡ length last - dropped_of bytes →
    n < kept → get_or last n 0 ≡ get_or (before bytes last) n 0
next_kept kept n bytes last e l =
    sym (get_or_left (take (length last - dropped_of bytes) last) (tail_of bytes) n
    (omega (arith, e, l, length-take (length last - dropped_of bytes) last))
    ∙ get_or-take (length last - dropped_of bytes) last n 0 (omega (arith, e, l)))

-- and where it comes after what is kept
pub next_past : (kept n start end : ℕ) (bytes last : List ℕ) → start ≡ start_of bytes →
    end ≡ end_of bytes → kept ≡ length last - dropped_of bytes → kept ≤ length last →
    get_or (take (end - start) (drop start bytes)) n 0 ≡ get_or (before bytes last) (kept + n) 0
next_past kept n start end bytes last es ee ek le =
    (λ i. get_or (take (ee i - es i) (drop (es i) bytes)) n 0)
    ∙ sym (get_or_right (take (length last - dropped_of bytes) last) (tail_of bytes) (kept + n) n
    (omega (arith, ek, le, length-take (length last - dropped_of bytes) last)))
