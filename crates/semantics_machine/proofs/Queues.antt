-- Queues that are kept in cells.
use Rattle.std.proofs.Common.{◌≡◌, ◌≢◌, ℕ, zero, suc, ◌+◌, ◌-◌, ◌*◌, ◌/◌, ◌%◌, ◌^◌, ◌<◌, ◌≤◌, List, [], ◌∷◌, ◌++◌, length, take, drop, ℤ, pos, inl, inr, get_or, set, ap, ◌∙◌, sym, subst, arith, length-set, get_or-set_same, get_or-set_other}
use Rattle.std.specs.Int.{cast_signed, cast_unsigned, w64}
use Rattle.std.specs.Int.Bits.{bit_or, bit_and, or_zero_l, or_zero_r}
use Rattle.std.proofs.Math.Nat.{div-one, div-eq_of_lt, mod-eq_of_lt, mul-mod_left}
use Rattle.std.proofs.lemmas.{Bool.cases_order, Int.of_z-to_z, List.{take-set-le, set-get_or}}
use Rattle.std.proofs.lemmas.Nat.{field_of, or_shr, or_mod, mod-pow-add, mod_low, or_lt, and_mask, shl-shr, shr-shr, mod_below}
use Rattle.guest_code.specs.Program.{Program}
use Rattle.semantics.specs.Machine.{Snapshot}
use Rattle.semantics_machine.specs.Refinement.{queued, queued_in}
use Rattle.semantics_machine.specs.{declared.control.Control.Control, inner.Parts.IsControlBut}
use Rattle.semantics_machine.{specs.inner.Steps.AreShared, proofs.Lists.by_place}

-- a thread joins at the end: its four bits are the lowest, and each of the others moves up
queued_more : (n q x t : ℕ) → x / 2 ^ (4 * 0) % 16 ≡ t
    → ((j : ℕ) → j < n → x / 2 ^ (4 * suc j) % 16 ≡ q / 2 ^ (4 * j) % 16)
    → queued_in (suc n) x ≡ queued_in n q ++ t ∷ []
queued_more zero q x t last up = ap (λ y. y ∷ []) last
queued_more (suc n) q x t last up =
    λ i. up n (omega arith) i ∷ queued_more n q x t last (λ j l. up j (omega arith)) i

-- the low bits of a number whose high ones were cut off
mod_twice : (n a : ℕ) → 4 ≤ a → n % 2 ^ a % 2 ^ 4 ≡ n % 2 ^ 4
mod_twice n a l = let e : a ≡ (a - 4) + 4 = omega (arith, l) in
    ap (λ k. n % 2 ^ k % 2 ^ 4) e
    ∙ (ap (λ m. m % 2 ^ 4) (mod-pow-add n (a - 4) 4)
    ∙ mod_low (n / 2 ^ 4 % 2 ^ (a - 4)) 4 (n % 2 ^ 4) (mod_below n (2 ^ 4) (omega arith)))

module _ (q t : ℕ) (small : t < 16) where
  abbrev moved : ℕ
  moved = bit_or (q * 2 ^ 4 % 2 ^ 64) t

  above : moved / 2 ^ 4 ≡ q % 2 ^ 60
  above = or_shr (q * 2 ^ 4 % 2 ^ 64) t 4
      ∙ (ap (bit_or (q * 2 ^ 4 % 2 ^ 64 / 2 ^ 4)) (div-eq_of_lt small)
      ∙ (or_zero_r (q * 2 ^ 4 % 2 ^ 64 / 2 ^ 4)
      ∙ (field_of (q * 2 ^ 4) 60 4 ∙ ap (λ n. n % 2 ^ 60) (shl-shr q 4))))

  up : (j : ℕ) → j < 15 → moved / 2 ^ (4 * suc j) % 16 ≡ q / 2 ^ (4 * j) % 16
  up j l =
      let e : 4 * suc j ≡ 4 + 4 * j = omega arith in
      let f : 60 ≡ (60 - 4 * j) + 4 * j = omega (arith, l) in
      ap (λ k. moved / 2 ^ k % 16) e
      ∙ (ap (λ n. n % 16) (sym (shr-shr moved 4 (4 * j)))
      ∙ (ap (λ n. n / 2 ^ (4 * j) % 16) above
      ∙ (ap (λ k. q % 2 ^ k / 2 ^ (4 * j) % 16) f
      ∙ (ap (λ n. n % 16) (field_of q (60 - 4 * j) (4 * j))
      ∙ mod_twice (q / 2 ^ (4 * j)) (60 - 4 * j) (omega (arith, l))))))

  low : moved / 2 ^ (4 * 0) % 16 ≡ t
  low = ap (λ n. n % 16) (div-one moved)
      ∙ (or_mod (q * 2 ^ 4 % 2 ^ 64) t 4
      ∙ ((λ i. bit_or ((mod_twice (q * 2 ^ 4) 64 (omega arith) ∙ mul-mod_left q (2 ^ 4)) i)
      (mod-eq_of_lt small i))
      ∙ or_zero_l t))

  moved_small : moved < 2 ^ 64
  moved_small = or_lt 64 (q * 2 ^ 4 % 2 ^ 64) t (mod_below (q * 2 ^ 4) (2 ^ 64) (omega arith))
      (omega (arith, small))

  joined_in : (n : ℕ) → n < 16 → queued_in (n + 1) moved ≡ queued_in n q ++ t ∷ []
  joined_in n few = let e : n + 1 ≡ suc n = omega arith in
      rw e (queued_more n q moved t low (λ j l. up j (omega (arith, l, few))))

  pub queued_joined : (n : ℕ) (x z : ℤ) → n < 16 → q ≡ cast_unsigned w64 x
      → z ≡ cast_signed w64 moved
      → queued (n + 1) (cast_signed w64 (cast_unsigned w64 z)) ≡ queued n x ++ t ∷ []
  queued_joined n x z few is made =
      ap (λ k. queued_in (n + 1) (cast_unsigned w64 (cast_signed w64 k))) bits
      ∙ (ap (queued_in (n + 1)) (of_z-to_z w64 moved moved_small)
      ∙ (joined_in n few ∙ ap (λ k. queued_in n k ++ t ∷ []) is))
    where
      bits : cast_unsigned w64 z ≡ moved
      bits = ap (cast_unsigned w64) made ∙ of_z-to_z w64 moved moved_small

first_in : (n q : ℕ) → 0 < n
    → queued_in n q ≡ bit_and (q / 2 ^ (4 * (n - 1))) 15 ∷ queued_in (n - 1) q
first_in zero q l = absurd (omega arith)
first_in (suc n) q l = let e : suc n - 1 ≡ n = omega arith in
    rw e (ap (λ x. x ∷ queued_in n q) (sym (and_mask (q / 2 ^ (4 * n)) 4)))

pub queued_first : (n q : ℕ) (x : ℤ) → 0 < n → q ≡ cast_unsigned w64 x
    → queued n x ≡ bit_and (q / 2 ^ (4 * (n - 1))) 15 ∷ queued (n - 1) x
queued_first n q x some is = rw is (first_in n (cast_unsigned w64 x) some)

-- a queue gets another length
pub requeued : (p : Program) (s : Snapshot) (t n : ℕ) (c : Control) (L : ℕ) (q : List ℕ)
    → IsControlBut p c s t → n < length s.queues → n < length c.lengths → L ≡ length q
    → IsControlBut p (record c { lengths = set c.lengths n L })
    (record s { queues = set s.queues n q }) t
requeued p s t n c L q shows inside room long = record {
  objects = record {
    owners_are = shows.objects.owners_are;
    counts_are = shows.objects.counts_are;
    lengths_are = by_place (λ k x. x ≡ length (get_or (set s.queues n q) k []))
        c.lengths n L 0 room
        (long ∙ ap (λ (x : List ℕ). length x) (sym (get_or-set_same s.queues n q [] inside)))
        (λ k ne. shows.objects.lengths_are k
        ∙ ap (λ (x : List ℕ). length x) (sym (get_or-set_other s.queues n k q [] ne)));
  };
  threads = shows.threads;
  idle = shows.idle;
}

-- and its cell
pub recelled : (lengths : List ℕ) (cells vars : List ℤ) (queues : List (List ℕ)) (n L : ℕ) (v : ℤ)
    (q : List ℕ)
    → AreShared lengths cells vars queues → n < length queues → n < length lengths
    → queued L v ≡ q
    → AreShared (set lengths n L) (set cells (length vars + n) v) vars (set queues n q)
recelled lengths cells vars queues n L v q h inside room here = record {
  variables = take-set-le (length vars) cells (length vars + n) v (omega arith) ∙ h.variables;
  are_queues = λ k l. elim (cases_order k n) [
    | inl e ↦ rw e ((λ i. queued (get_or-set_same lengths n L 0 room i)
        (get_or-set_same cells (length vars + n) v (pos 0)
        (omega (arith, h.size, inside)) i))
        ∙ (here ∙ sym (get_or-set_same queues n q [] inside)))
    | inr (inl a) ↦ other k (omega (arith, l, length-set queues n q)) (omega (arith, a))
    | inr (inr a) ↦ other k (omega (arith, l, length-set queues n q)) (omega (arith, a))
  ];
  size = length-set cells (length vars + n) v
      ∙ (h.size ∙ ap (λ k. length vars + k) (sym (length-set queues n q)));
}
  where
    other : (k : ℕ) → k < length queues → k ≢ n
        → queued (get_or (set lengths n L) k 0)
        (get_or (set cells (length vars + n) v) (length vars + k) (pos 0))
        ≡ get_or (set queues n q) k []
    other k l ne = (λ i. queued (get_or-set_other lengths n k L 0 ne i)
        (get_or-set_other cells (length vars + n) (length vars + k) v (pos 0)
        (λ e. ne (omega (arith, e))) i))
        ∙ (h.are_queues k l ∙ sym (get_or-set_other queues n k q [] ne))

-- the first of a cell is that of its queue
pub first_queued : (lengths : List ℕ) (cells vars : List ℤ) (queues : List (List ℕ)) (n : ℕ)
    (v : ℤ) (t : ℕ)
    → AreShared lengths cells vars queues → n < length queues
    → v ≡ get_or cells (length vars + n) (pos 0)
    → queued (get_or lengths n 0) v ≡ t ∷ queued (get_or lengths n 0 - 1) v
    → take 1 (get_or queues n []) ≡ t ∷ []
first_queued lengths cells vars queues n v t h inside is first =
    ap (take 1) (sym (h.are_queues n inside) ∙ (ap (queued (get_or lengths n 0)) (sym is) ∙ first))

-- a queue loses its first
pub unqueued : (lengths : List ℕ) (cells vars : List ℤ) (queues : List (List ℕ)) (n : ℕ) (v : ℤ)
    (t : ℕ)
    → AreShared lengths cells vars queues → n < length queues → n < length lengths
    → v ≡ get_or cells (length vars + n) (pos 0)
    → queued (get_or lengths n 0) v ≡ t ∷ queued (get_or lengths n 0 - 1) v
    → AreShared (set lengths n (get_or lengths n 0 - 1)) cells vars
    (set queues n (drop 1 (get_or queues n [])))
unqueued lengths cells vars queues n v t h inside room is first =
    subst (λ xs. AreShared (set lengths n (get_or lengths n 0 - 1)) xs vars
    (set queues n (drop 1 (get_or queues n []))))
    (ap (set cells (length vars + n)) is ∙ set-get_or cells (length vars + n) (pos 0))
    (recelled lengths cells vars queues n (get_or lengths n 0 - 1) v (drop 1 (get_or queues n [])) h
    inside room (ap (drop 1) (sym first ∙ here)))
  where
    here : queued (get_or lengths n 0) v ≡ get_or queues n []
    here = ap (queued (get_or lengths n 0)) is ∙ h.are_queues n inside
