-- Steps that touch no object both, by the bits of what they touch.
use Rattle.std.proofs.Common.{◌≡◌, ◌≢◌, ℕ, zero, suc, ◌^◌, Bool, true, false, not, cond, ◌&&◌, ◌||◌, nat_eq, min, max, List, [], ◌∷◌, Some, refl, ap, ◌∙◌, sym, arith, inl, inr}
use Rattle.std.specs.Int.{bit_at, Bits.{bit_and, bit_or, and_self, and_zero_r, or_zero_r}}
use Rattle.std.specs.List.{filter}
use Rattle.std.proofs.lemmas.{Bool.cases_order, Bool.Decides.nat_tests, Nat.{le_or_l, pow_pos}}
use Rattle.std.proofs.lemmas.Nat.Bits.{bit_at_and, bit_at_or, bit_at-zero, bit_at-pow_other, same_from_bits}
use Rattle.semantics.specs.Accesses.{Access, accesses}
use Rattle.semantics.specs.Accesses.Access.{reads_var, writes_var, writes_mutex, writes_condition, writes_semaphore}
use Rattle.semantics.specs.declared.state.Action.{Action}
use Rattle.semantics_schedules.specs.Sleep.{conflict, conflicts_with_any, some_conflict, apart}
use Rattle.semantics_machine.specs.Touches.{bit_of, is_write, bits_of, touch_of}
use Rattle.semantics_machine.specs.declared.touch.Touch.{Touch}

-- whether two numbers have no bit in common
abbrev pub disjoint : ℕ → ℕ → Bool
disjoint a b = nat_eq (bit_and a b) 0

pub neither : (a b : ℕ) → nat_eq (bit_or a b) 0 ≡ (nat_eq a 0 && nat_eq b 0)
neither zero b = refl
neither (suc a) b = let l = le_or_l (suc a) b in
    let z : nat_eq (bit_or (suc a) b) 0 ≡ false = grind (arith, nat_tests, l) in
    let y : nat_eq (suc a) 0 ≡ false = grind (arith, nat_tests) in
    z ∙ sym (ap (λ q. q && nat_eq b 0) y)

and_of_or : (a b c : ℕ) → bit_and (bit_or a b) c ≡ bit_or (bit_and a c) (bit_and b c)
and_of_or a b c = same_from_bits _ _ (λ i. bit_at_and (bit_or a b) c i
    ∙ (ap (λ n. min n (bit_at c i)) (bit_at_or a b i)
    ∙ (spread (bit_at a i) (bit_at b i) (bit_at c i)
    ∙ sym (bit_at_or (bit_and a c) (bit_and b c) i
    ∙ (λ j. max (bit_at_and a c i j) (bit_at_and b c i j))))))
  where
    spread : (x y z : ℕ) → min (max x y) z ≡ max (min x z) (min y z)
    spread x y z = omega arith

or_of_and : (a b c : ℕ) → bit_and c (bit_or a b) ≡ bit_or (bit_and c a) (bit_and c b)
or_of_and a b c = same_from_bits _ _ (λ i. bit_at_and c (bit_or a b) i
    ∙ (ap (min (bit_at c i)) (bit_at_or a b i)
    ∙ (spread (bit_at a i) (bit_at b i) (bit_at c i)
    ∙ sym (bit_at_or (bit_and c a) (bit_and c b) i
    ∙ (λ j. max (bit_at_and c a i j) (bit_at_and c b i j))))))
  where
    spread : (x y z : ℕ) → min z (max x y) ≡ max (min z x) (min z y)
    spread x y z = omega arith

left_or : (a b c : ℕ) → disjoint (bit_or a b) c ≡ (disjoint a c && disjoint b c)
left_or a b c = ap (λ n. nat_eq n 0) (and_of_or a b c) ∙ neither (bit_and a c) (bit_and b c)

right_or : (a b c : ℕ) → disjoint c (bit_or a b) ≡ (disjoint c a && disjoint c b)
right_or a b c = ap (λ n. nat_eq n 0) (or_of_and a b c) ∙ neither (bit_and c a) (bit_and c b)

-- two single bits
one_bit : (i j : ℕ) → disjoint (2 ^ i) (2 ^ j) ≡ not (nat_eq i j)
one_bit i j = elim (cases_order i j) [
  | inl e ↦ rw e (ap (λ n. nat_eq n 0) (and_self (2 ^ j)) ∙ (some j
      ∙ (let z : nat_eq j j ≡ true = grind (arith, nat_tests) in sym (ap not z))))
  | inr (inl l) ↦ other (omega (arith, l))
  | inr (inr l) ↦ other (omega (arith, l))
]
  where
    some : (k : ℕ) → nat_eq (2 ^ k) 0 ≡ false
    some k = let p = pow_pos k in grind (arith, nat_tests, p)

    other : i ≢ j → disjoint (2 ^ i) (2 ^ j) ≡ not (nat_eq i j)
    other ne = ap (λ n. nat_eq n 0) (same_from_bits (bit_and (2 ^ i) (2 ^ j)) 0
        (λ b. bit_at_and (2 ^ i) (2 ^ j) b ∙ (apart_at b ∙ sym (bit_at-zero b))))
        ∙ (let z : nat_eq i j ≡ false = grind (arith, nat_tests, ne) in sym (ap not z))
      where
        least : (n : ℕ) → min 0 n ≡ 0
        least n = omega arith

        lesser : (n : ℕ) → min n 0 ≡ 0
        lesser n = omega arith

        apart_at : (b : ℕ) → min (bit_at (2 ^ i) b) (bit_at (2 ^ j) b) ≡ 0
        apart_at b = elim (cases_order b i) [
          | inl e ↦ ap (min (bit_at (2 ^ i) b))
              (bit_at-pow_other j b (λ f. ne (sym e ∙ f))) ∙ lesser (bit_at (2 ^ i) b)
          | inr (inl l) ↦ ap (λ n. min n (bit_at (2 ^ j) b))
              (bit_at-pow_other i b (omega (arith, l))) ∙ least (bit_at (2 ^ j) b)
          | inr (inr l) ↦ ap (λ n. min n (bit_at (2 ^ j) b))
              (bit_at-pow_other i b (omega (arith, l))) ∙ least (bit_at (2 ^ j) b)
        ]

-- two accesses

-- the bit of an object that is written
abbrev pub write_bit : Access → ℕ
write_bit a = cond (is_write a) (2 ^ bit_of a) 0

writes_of : (a : Access) (as_ : List Access)
    → bits_of (filter is_write (a ∷ as_)) ≡ bit_or (write_bit a) (bits_of (filter is_write as_))
writes_of (reads_var x) as_ = refl
writes_of (writes_var x) as_ = refl
writes_of (writes_mutex m) as_ = refl
writes_of (writes_condition c) as_ = refl
writes_of (writes_semaphore k) as_ = refl

-- no object is touched by both with one of them writing it
bits_conflict : (a b : Access)
    → (not (is_write a && nat_eq (bit_of a) (bit_of b))
    && not (is_write b && nat_eq (bit_of a) (bit_of b))) ≡ not (conflict a b)
bits_conflict (reads_var x) (reads_var y) = refl
bits_conflict (reads_var x) (writes_var y) = grind (arith, nat_tests)
bits_conflict (reads_var x) (writes_mutex n) = grind (arith, nat_tests)
bits_conflict (reads_var x) (writes_condition d) = grind (arith, nat_tests)
bits_conflict (reads_var x) (writes_semaphore l) = grind (arith, nat_tests)
bits_conflict (writes_var x) (reads_var y) = grind (arith, nat_tests)
bits_conflict (writes_var x) (writes_var y) = grind (arith, nat_tests)
bits_conflict (writes_var x) (writes_mutex n) = grind (arith, nat_tests)
bits_conflict (writes_var x) (writes_condition d) = grind (arith, nat_tests)
bits_conflict (writes_var x) (writes_semaphore l) = grind (arith, nat_tests)
bits_conflict (writes_mutex m) (reads_var y) = grind (arith, nat_tests)
bits_conflict (writes_mutex m) (writes_var y) = grind (arith, nat_tests)
bits_conflict (writes_mutex m) (writes_mutex n) = grind (arith, nat_tests)
bits_conflict (writes_mutex m) (writes_condition d) = grind (arith, nat_tests)
bits_conflict (writes_mutex m) (writes_semaphore l) = grind (arith, nat_tests)
bits_conflict (writes_condition c) (reads_var y) = grind (arith, nat_tests)
bits_conflict (writes_condition c) (writes_var y) = grind (arith, nat_tests)
bits_conflict (writes_condition c) (writes_mutex n) = grind (arith, nat_tests)
bits_conflict (writes_condition c) (writes_condition d) = grind (arith, nat_tests)
bits_conflict (writes_condition c) (writes_semaphore l) = grind (arith, nat_tests)
bits_conflict (writes_semaphore k) (reads_var y) = grind (arith, nat_tests)
bits_conflict (writes_semaphore k) (writes_var y) = grind (arith, nat_tests)
bits_conflict (writes_semaphore k) (writes_mutex n) = grind (arith, nat_tests)
bits_conflict (writes_semaphore k) (writes_condition d) = grind (arith, nat_tests)
bits_conflict (writes_semaphore k) (writes_semaphore l) = grind (arith, nat_tests)

two_accesses : (a b : Access) → (disjoint (write_bit a) (2 ^ bit_of b)
    && disjoint (2 ^ bit_of a) (write_bit b)) ≡ not (conflict a b)
two_accesses a b = (λ i. first (is_write a) i && second (is_write b) i) ∙ bits_conflict a b
  where
    first : (w : Bool) → disjoint (cond w (2 ^ bit_of a) 0) (2 ^ bit_of b)
        ≡ not (w && nat_eq (bit_of a) (bit_of b))
    first true = one_bit (bit_of a) (bit_of b)
    first false = refl

    second : (w : Bool) → disjoint (2 ^ bit_of a) (cond w (2 ^ bit_of b) 0)
        ≡ not (w && nat_eq (bit_of a) (bit_of b))
    second true = one_bit (bit_of a) (bit_of b)
    second false = ap (λ n. nat_eq n 0) (and_zero_r (2 ^ bit_of a))

-- all accesses of two steps

-- whether none of the one writes what the other touches
abbrev pub bits_apart : ℕ → ℕ → ℕ → ℕ → Bool
bits_apart writes touches others_touches others_writes =
    disjoint writes others_touches && disjoint touches others_writes

swapped : (a b c d : Bool) → ((a && b) && (c && d)) ≡ ((a && c) && (b && d))
swapped true true c d = refl
swapped true false true d = refl
swapped true false false d = refl
swapped false b c d = refl

nor : (a b : Bool) → (not a && not b) ≡ not (a || b)
nor true b = refl
nor false b = refl

one_access : (a : Access) (bs : List Access)
    → bits_apart (write_bit a) (2 ^ bit_of a) (bits_of bs) (bits_of (filter is_write bs))
    ≡ not (conflicts_with_any a bs)
one_access a [] = (λ i. nat_eq (and_zero_r (write_bit a) i) 0
    && nat_eq (and_zero_r (2 ^ bit_of a) i) 0)
one_access a (b ∷ bs) =
    ap (λ n. disjoint (write_bit a) (bit_or (2 ^ bit_of b) (bits_of bs))
    && disjoint (2 ^ bit_of a) n) (writes_of b bs)
    ∙ ((λ i. right_or (2 ^ bit_of b) (bits_of bs) (write_bit a) i
    && right_or (write_bit b) (bits_of (filter is_write bs)) (2 ^ bit_of a) i)
    ∙ (swapped (disjoint (write_bit a) (2 ^ bit_of b)) (disjoint (write_bit a) (bits_of bs))
    (disjoint (2 ^ bit_of a) (write_bit b))
    (disjoint (2 ^ bit_of a) (bits_of (filter is_write bs)))
    ∙ ((λ i. two_accesses a b i && one_access a bs i)
    ∙ nor (conflict a b) (conflicts_with_any a bs))))

pub all_accesses : (as_ bs : List Access)
    → bits_apart (bits_of (filter is_write as_)) (bits_of as_) (bits_of bs)
    (bits_of (filter is_write bs)) ≡ not (some_conflict as_ bs)
all_accesses [] bs = refl
all_accesses (a ∷ as_) bs =
    ap (λ n. disjoint n (bits_of bs) && disjoint (bit_or (2 ^ bit_of a) (bits_of as_))
    (bits_of (filter is_write bs))) (writes_of a as_)
    ∙ ((λ i. left_or (write_bit a) (bits_of (filter is_write as_)) (bits_of bs) i
    && left_or (2 ^ bit_of a) (bits_of as_) (bits_of (filter is_write bs)) i)
    ∙ (swapped (disjoint (write_bit a) (bits_of bs))
    (disjoint (bits_of (filter is_write as_)) (bits_of bs))
    (disjoint (2 ^ bit_of a) (bits_of (filter is_write bs)))
    (disjoint (bits_of as_) (bits_of (filter is_write bs)))
    ∙ ((λ i. one_access a bs i && all_accesses as_ bs i)
    ∙ nor (conflicts_with_any a bs) (some_conflict as_ bs))))

-- two steps

pub steps_apart : (t u : Touch) (a b : Action) → t ≡ touch_of (Some a) → u ≡ touch_of (Some b)
    → nat_eq (bit_or (bit_and t.written u.all) (bit_and t.all u.written)) 0
    ≡ apart (Some a) (Some b)
steps_apart t u a b h k = neither (bit_and t.written u.all) (bit_and t.all u.written)
    ∙ ((λ i. bits_apart (h i).written (h i).all (k i).all (k i).written)
    ∙ all_accesses (accesses a) (accesses b))

-- a step on one object

pub one_written : (t : Touch) (b : ℕ) → t.all ≡ 2 ^ b → t.written ≡ 2 ^ b
    → t ≡ record { all = bit_or (2 ^ b) 0; written = bit_or (2 ^ b) 0 }
one_written t b all written = λ i. record {
  all = (all ∙ sym (or_zero_r (2 ^ b))) i;
  written = (written ∙ sym (or_zero_r (2 ^ b))) i;
}

pub one_read : (n b : ℕ) → n ≡ 2 ^ b
    → ◌≡◌ {A = Touch} (record { all = n; written = 0 })
    (record { all = bit_or (2 ^ b) 0; written = 0 })
one_read n b all = λ i. record { all = (all ∙ sym (or_zero_r (2 ^ b))) i; written = 0 }

-- and the step of a `wait`, on two
pub two_written : (t u v : Touch) (b d : ℕ) → t.all ≡ 2 ^ b → t.written ≡ 2 ^ b → u.all ≡ 2 ^ d
    → u.written ≡ 2 ^ d → v.all ≡ bit_or t.all u.all → v.written ≡ bit_or t.written u.written
    → v ≡ record {
      all = bit_or (2 ^ b) (bit_or (2 ^ d) 0);
      written = bit_or (2 ^ b) (bit_or (2 ^ d) 0);
    }
two_written t u v b d f g h k all written = λ i. record {
  all = (all ∙ (λ j. bit_or (f j) ((h ∙ sym (or_zero_r (2 ^ d))) j))) i;
  written = (written ∙ (λ j. bit_or (g j) ((k ∙ sym (or_zero_r (2 ^ d))) j))) i;
}
