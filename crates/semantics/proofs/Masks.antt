-- Members of a mask members_from a number on.
use Rattle.std.proofs.Common.{◌≡◌, ◌≢◌, ℕ, ℤ, zero, suc, ◌+◌, ◌-◌, ◌<◌, ◌≤◌, Bool, true, false, cond, not, ◌&&◌, ◌||◌, min, max, List, [], ◌∷◌, length, Option, Some, None, refl, ap, ◌∙◌, sym, arith, inl, inr, pow-suc, ◌/◌, ◌^◌, ◌*◌, ◌%◌, nat_eq}
use Rattle.std.specs.Int.{bit_at, bit_not, w16, trailing_zeros, Bits.{bit_and, bit_or}}
use Rattle.std.{specs.List.filter, proofs.Math.Nat.{div-div-eq-div-mul, div-le_self}}
use Rattle.std.proofs.lemmas.{Bool.cases_lt, Nat.pow-add}
use Rattle.std.proofs.lemmas.Nat.Bits.{bit_at_above, bit_at-zero, bit_at-trailing_zeros, bit_at_not, bit_at_and, bit_at_or, bit_at-lt, bit_at_cat_low, bit_at_cat_high, same_from_bits_below}
use Rattle.guest_code.specs.{Program.Program, declared.limits.TheConstants.THREADS}
use Rattle.semantics.specs.{Ends.enabled, Machine.{Snapshot, is_enabled, can_do}}
use Rattle.semantics.specs.Mask.{has, no_threads, members_from, bits_of, mask_of, one_if}
use Rattle.semantics.specs.{Work.up_from, declared.mask.Mask.Mask, declared.state.Action.Action}
use Rattle.semantics.specs.declared.state.{Action.TheVariants.OnVariable, Thread.Thread}

members_one : (m : Mask) (n k : ℕ) → k ≡ 16 - (n + 1) → n < 16
    → members_from m n ≡ cond (has m n) (n ∷ filter (has m) (up_from (n + 1) k))
    (filter (has m) (up_from (n + 1) k))
unfolding members_from
members_one m n k e h = let s : 16 - n ≡ suc k = omega arith in let o : suc n ≡ n + 1 =
    omega arith in ap (λ j. filter (has m) (up_from n j)) s ∙
    ap (λ j. cond (has m n) (n ∷ filter (has m) (up_from j k)) (filter (has m) (up_from j k))) o

pub members_take : (m : Mask) (n : ℕ) → n < 16 → has m n ≡ true
    → members_from m n ≡ n ∷ members_from m (n + 1)
unfolding members_from
members_take m n h e = members_one m n (16 - (n + 1)) refl h ∙
    ap (λ b. cond b (n ∷ filter (has m) (up_from (n + 1) (16 - (n + 1))))
    (filter (has m) (up_from (n + 1) (16 - (n + 1))))) e

pub members_skip : (m : Mask) (n : ℕ) → n < 16 → has m n ≡ false
    → members_from m n ≡ members_from m (n + 1)
unfolding members_from
members_skip m n h e = members_one m n (16 - (n + 1)) refl h ∙
    ap (λ b. cond b (n ∷ filter (has m) (up_from (n + 1) (16 - (n + 1))))
    (filter (has m) (up_from (n + 1) (16 - (n + 1))))) e

pub members_past : (m : Mask) (n : ℕ) → 16 ≤ n → members_from m n ≡ []
unfolding members_from
members_past m n h = let s : 16 - n ≡ 0 = omega arith in ap (λ j. filter (has m) (up_from n j)) s

-- none of the next k is a member
pub members_over : (m : Mask) (n k : ℕ) → n + k ≤ 16 → ((i : ℕ) → i < k → has m (n + i) ≡ false)
    → members_from m n ≡ members_from m (n + k)
members_over m n zero h none = ap (members_from m) (let e : n ≡ n + 0 = omega arith in e)
members_over m n (suc k) h none =
    let z : n + 0 ≡ n = omega arith in
    let e : n + 1 + k ≡ n + suc k = omega arith in
    members_skip m n (omega arith) (ap (has m) (sym z) ∙ none 0 (omega arith))
    ∙ (members_over m (n + 1) k (omega arith)
    (λ i l. let q : n + 1 + i ≡ n + (i + 1) = omega arith in ap (has m) q ∙ none (i + 1)
    (omega arith))
    ∙ ap (members_from m) e)

-- two tests that agree, with none passing members_from some number on
filter_same : (f g : ℕ → Bool) (first n k : ℕ) → ((t : ℕ) → f t ≡ g t) → n ≤ k
    → ((t : ℕ) → first + n ≤ t → g t ≡ false)
    → filter f (up_from first k) ≡ filter g (up_from first n)
filter_same f g first zero zero same l none = refl
filter_same f g first zero (suc k) same l none =
    let e : f first ≡ false = same first ∙ none first (omega arith) in
    rw e (filter_same f g (suc first) zero k same (omega arith) (λ t h. none t (omega arith)))
filter_same f g first (suc n) zero same l none = absurd (omega arith)
filter_same f g first (suc n) (suc k) same l none =
    rw (same first) (ap (λ (L : List ℕ). cond (g first) (first ∷ L) L)
    (filter_same f g (suc first) n k same (omega arith) (λ t h. none t (omega arith))))

-- the mask of what is enabled has the enabled threads
pub members_enabled : (p : Program) (s : Snapshot) (m : Mask)
    → ((t : ℕ) → has m t ≡ is_enabled p s t) → length s.threads ≤ 16
    → ((t : ℕ) → length s.threads ≤ t → is_enabled p s t ≡ false) → members_from m 0 ≡ enabled p s
unfolding members_from enabled
members_enabled p s m same few past = filter_same (has m) (is_enabled p s) 0 (length s.threads) 16
    same few (λ t h. past t (omega arith))

-- tests that agree on a stretch
filter_between : (f g : ℕ → Bool) (first n : ℕ) → ((t : ℕ) → first ≤ t → t < first + n → f t ≡ g t)
    → filter f (up_from first n) ≡ filter g (up_from first n)
filter_between f g first zero same = refl
filter_between f g first (suc n) same =
    rw (same first (omega arith) (omega arith))
    (ap (λ (L : List ℕ). cond (g first) (first ∷ L) L)
    (filter_between f g (suc first) n (λ t h k. same t (omega arith) (omega arith))))

-- the mask of those that a test picks

bits_below : (f : ℕ → Bool) (n : ℕ) → bits_of f n < 2 ^ n
bits_below f zero = omega arith
bits_below f (suc n) =
    let r : bits_of f n < 2 ^ n = bits_below f n in
    let p : 2 ^ suc n ≡ 2 ^ n + 2 ^ n = omega (arith, pow-suc 2 n) in
    elim (f n) as (λ b. one_if b * 2 ^ n + bits_of f n < 2 ^ suc n)
    [ true ↦ omega (arith, r, p) | false ↦ omega (arith, r, p) ]

bit_of : (f : ℕ → Bool) (n t : ℕ) → t < n → bit_at (bits_of f n) t ≡ one_if (f t)
bit_of f zero t h = absurd (omega arith)
bit_of f (suc n) t h = elim (cases_lt t n) [
  | inl l ↦ bit_at_cat_low (one_if (f n)) n (bits_of f n) t l ∙ bit_of f n t l
  | inr g ↦ (let e : t ≡ n = omega arith in let z : n - n ≡ 0 = omega arith in
      ap (bit_at (bits_of f (suc n))) e
      ∙ (bit_at_cat_high (one_if (f n)) n (bits_of f n) n (bits_below f n) (omega arith)
      ∙ (ap (bit_at (one_if (f n))) z ∙ (single (f n) ∙ ap (λ k. one_if (f k)) (sym e)))))
]
  where
    single : (b : Bool) → bit_at (one_if b) 0 ≡ one_if b
    single true = refl
    single false = refl

eq_one : (b : Bool) → nat_eq (one_if b) 1 ≡ b
eq_one true = refl
eq_one false = refl

pub has-mask_of : (f : ℕ → Bool) (t : ℕ) → t < THREADS → has (mask_of f) t ≡ f t
unfolding mask_of
has-mask_of f t h = ap (λ n. nat_eq n 1) (bit_of f THREADS t h) ∙ eq_one (f t)

pub mask_of-fits : (f : ℕ → Bool) → (mask_of f).bits < 2 ^ 16
unfolding mask_of
mask_of-fits f = bits_below f 16

-- masks with the same members are one

two_values : (x y : ℕ) → x < 2 → y < 2 → nat_eq x 1 ≡ nat_eq y 1 → x ≡ y
two_values zero zero h k e = refl
two_values zero (suc zero) h k e = cc
two_values (suc zero) zero h k e = cc
two_values (suc zero) (suc zero) h k e = refl
two_values (suc (suc x)) y h k e = absurd (omega arith)
two_values x (suc (suc y)) h k e = absurd (omega arith)

pub same_members : (m n : Mask) → m.bits < 2 ^ 16 → n.bits < 2 ^ 16
    → ((t : ℕ) → t < THREADS → has m t ≡ has n t) → m ≡ n
same_members m n h k same = λ i. record {
  bits = same_from_bits_below 16 m.bits n.bits h k
      (λ t l. two_values (bit_at m.bits t) (bit_at n.bits t) (bit_at-lt m.bits t)
      (bit_at-lt n.bits t) (same t l)) i;
}

pub is_mask_of : (m : Mask) (f : ℕ → Bool) → m.bits < 2 ^ 16
    → ((t : ℕ) → t < THREADS → has m t ≡ f t) → m ≡ mask_of f
is_mask_of m f h same = same_members m (mask_of f) h (mask_of-fits f)
    (λ t l. same t l ∙ sym (has-mask_of f t l))

-- no thread from the limit on is in a mask
pub has-above : (m : Mask) (t : ℕ) → m.bits < 2 ^ 16 → THREADS ≤ t → has m t ≡ false
has-above m t fits h = ap (λ (n : ℕ). nat_eq n 1) (bit_at_above m.bits 16 t fits h)

pub empty_has : (t : ℕ) → has no_threads t ≡ false
empty_has t = ap (λ n. nat_eq n 1) (bit_at-zero t)

-- a mask without its least member has the others
pub members-without_first : (m n : Mask) (t : ℕ) → t < THREADS
    → ((u : ℕ) → u < t → has m u ≡ false) → has n t ≡ false → ((u : ℕ) → u ≢ t → has n u ≡ has m u)
    → members_from n 0 ≡ members_from m (t + 1)
unfolding members_from
members-without_first m n t h none off others =
    let small : t < 16 = h in
    let below : 0 + (t + 1) ≤ 16 = omega (arith, small) in
    members_over n 0 (t + 1) below (λ i l. (let z : 0 + i ≡ i = omega arith in ap (has n) z) ∙ elim
    (cases_lt i t) [
      | inl a ↦ (let ne : i ≢ t = omega arith in others i ne ∙ none i a)
      | inr b ↦ (let e : i ≡ t = omega arith in ap (has n) e ∙ off)
    ])
    ∙ (let z : 0 + (t + 1) ≡ t + 1 = omega arith in ap (λ k. filter (has n) (up_from k (16 - k))) z)
    ∙ filter_between (has n) (has m) (t + 1) (16 - (t + 1))
    (λ u a b. let ne : u ≢ t = omega arith in others u ne)

-- a mask without those of another

-- what holds of all pairs of bits
on_bits : (P : ℕ → ℕ → Type 0) → P 0 0 → P 0 1 → P 1 0 → P 1 1 → (x y : ℕ) → x < 2 → y < 2 → P x y
on_bits P a b c d zero zero h k = a
on_bits P a b c d zero (suc zero) h k = b
on_bits P a b c d (suc zero) zero h k = c
on_bits P a b c d (suc zero) (suc zero) h k = d
on_bits P a b c d (suc (suc x)) y h k = absurd (omega arith)
on_bits P a b c d x (suc (suc y)) h k = absurd (omega arith)

both_bits : (x y : ℕ) → x < 2 → y < 2 → nat_eq (min x (1 - y)) 1 ≡ (nat_eq x 1 && not (nat_eq y 1))
both_bits = on_bits (λ x y. nat_eq (min x (1 - y)) 1 ≡ (nat_eq x 1 && not (nat_eq y 1))) refl refl
    refl refl

pub minus_bits : (a b u : ℕ) → a < 2 ^ 16 → b < 2 ^ 16
    → nat_eq (bit_at (bit_and a (bit_not w16 b)) u) 1
    ≡ (nat_eq (bit_at a u) 1 && not (nat_eq (bit_at b u) 1))
minus_bits a b u fits fits2 = elim (cases_lt u 16) [
  | inl l ↦ ap (λ n. nat_eq n 1) (bit_at_and a (bit_not w16 b) u ∙ ap (min (bit_at a u))
      (bit_at_not w16 b u fits2 l)) ∙ both_bits (bit_at a u) (bit_at b u) (bit_at-lt a u)
      (bit_at-lt b u)
  | inr g ↦ (let z : bit_at a u ≡ 0 = bit_at_above a 16 u fits g in
      ap (λ n. nat_eq n 1) (bit_at_and a (bit_not w16 b) u ∙
      ap (λ n. min n (bit_at (bit_not w16 b) u)) z ∙ least (bit_at (bit_not w16 b) u))
      ∙ ap (λ n. nat_eq n 1 && not (nat_eq (bit_at b u) 1)) (sym z))
]
  where
    least : (n : ℕ) → min 0 n ≡ 0
    least n = omega arith

-- a step on a variable lets no other thread be enabled or cease to be
can_do_same : (s : Snapshot) (V : List ℤ) (T : List Thread) (a : Option Action)
    → can_do (record s { vars = V; threads = T }) a ≡ can_do s a
can_do_same s V T None = refl
can_do_same s V T (Some (OnVariable x d)) = refl
can_do_same s V T (Some a) = refl

shifted : (n t i : ℕ) → bit_at (n / 2 ^ t) i ≡ bit_at n (t + i)
shifted n t i = ap (λ (k : ℕ). k % 2) (div-div-eq-div-mul n (2 ^ t) (2 ^ i) ∙ ap (λ (k : ℕ). n / k)
    (sym (pow-add 2 t i)))

pub no_more : (m : Mask) (t : ℕ) → t < 16 → m.bits / 2 ^ t ≡ 0 → members_from m t ≡ []
no_more m t h z =
    members_over m t (16 - t) (omega arith)
    (λ i l. ap (λ (n : ℕ). nat_eq n 1) (sym (shifted m.bits t i) ∙
    (ap (λ (r : ℕ). bit_at r i) z ∙ bit_at-zero i)))
    ∙ members_past m (t + (16 - t)) (omega arith)

-- the least member from t on
pub record IsNext (m : Mask) (t u : ℕ) : Type 0 where
  pub list : members_from m t ≡ u ∷ members_from m (u + 1)
  pub on : has m u ≡ true
  pub small : u < 16
  pub none : (v : ℕ) → t ≤ v → v < u → has m v ≡ false

pub next_one : (m : Mask) (t : ℕ) → m.bits < 2 ^ 16 → t < 16 → m.bits / 2 ^ t ≢ 0
    → IsNext m t (t + trailing_zeros w16 (m.bits / 2 ^ t))
next_one m t fits h some = record {
  list = members_over m t k (omega (arith, small)) none ∙ members_take m (t + k) small on;
  on = on;
  small = small;
  none = λ u a b. let e : t + (u - t) ≡ u =
      omega arith in ap (has m) (sym e) ∙ none (u - t) (omega arith);
}
  where
    r : ℕ
    r = m.bits / 2 ^ t

    k : ℕ
    k = trailing_zeros w16 r

    below : r < 2 ^ 16
    below = let l : r ≤ m.bits = div-le_self m.bits (2 ^ t) in omega (arith, l, fits)

    positive : 0 < r
    positive = let ne : r ≢ 0 = some in omega (arith, ne)

    k_on : bit_at r k ≡ 1
    k_on = (bit_at-trailing_zeros w16 r positive below).1

    k_first : (i : ℕ) → i < k → bit_at r i ≡ 0
    k_first = (bit_at-trailing_zeros w16 r positive below).2

    one : bit_at m.bits (t + k) ≡ 1
    one = sym (shifted m.bits t k) ∙ k_on

    on : has m (t + k) ≡ true
    on = ap (λ (n : ℕ). nat_eq n 1) one

    none : (i : ℕ) → i < k → has m (t + i) ≡ false
    none i l = ap (λ (n : ℕ). nat_eq n 1) (sym (shifted m.bits t i) ∙ k_first i l)

    small : t + k < 16
    small = elim (cases_lt (t + k) 16) [
      | inl l ↦ l
      | inr g ↦
          (let z : bit_at m.bits (t + k) ≡ 0 = bit_at_above m.bits 16 (t + k) fits g in let e : 0
          ≡ 1 = sym z ∙ one in absurd (omega (arith, e)))
    ]

-- the threads that aren't in a mask

-- where no member is left from a number on
none_in : (f : ℕ → Bool) (n k u : ℕ) → filter f (up_from n k) ≡ [] → n ≤ u → u < n + k → f u ≡ false
none_in f n zero u e a b = absurd (omega (arith, a, b))
none_in f n (suc k) u e a b = at (λ none l. none_in f (suc n) k u none (omega (arith, l))
    (omega (arith, b))) (f n) refl e
  where
    at : (filter f (up_from (suc n) k) ≡ [] → n < u → f u ≡ false) → (b : Bool) → f n ≡ b
        → cond b (n ∷ filter f (up_from (suc n) k)) (filter f (up_from (suc n) k)) ≡ []
        → f u ≡ false
    at later true on none = cc
    at later false off none = elim (cases_lt n u) [
      | inl l ↦ later none l
      | inr g ↦ (let same : u ≡ n = omega (arith, g, a) in ap f same ∙ off)
    ]

pub none_left : (m : Mask) (n u : ℕ) → members_from m n ≡ [] → n ≤ u → u < THREADS → has m u ≡ false
unfolding members_from
none_left m n u e a b = none_in (has m) n (16 - n) u e a (omega (arith, a, b))

-- a mask with those of another

either_bit : (x y : ℕ) → x < 2 → y < 2 → nat_eq (max x y) 1 ≡ (nat_eq x 1 || nat_eq y 1)
either_bit = on_bits (λ x y. nat_eq (max x y) 1 ≡ (nat_eq x 1 || nat_eq y 1)) refl refl refl refl

pub union_bits : (a b u : ℕ) → nat_eq (bit_at (bit_or a b) u) 1
    ≡ (nat_eq (bit_at a u) 1 || nat_eq (bit_at b u) 1)
union_bits a b u = ap (λ n. nat_eq n 1) (bit_at_or a b u)
    ∙ either_bit (bit_at a u) (bit_at b u) (bit_at-lt a u) (bit_at-lt b u)
