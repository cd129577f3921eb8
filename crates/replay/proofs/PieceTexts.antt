-- A text is one piece.
use Rattle.std.proofs.Common.{◌≡◌, ◌⊎◌, ℕ, ◌+◌, ◌-◌, ◌<◌, ◌≤◌, ◌^◌, true, false, ◌==◌, List, [], ◌∷◌, ◌++◌, length, refl, ap, ◌∙◌, sym, subst, arith, inl, inr, get_or, take, drop, min, Some, None, Bool, cond, nat_lt}
use Rattle.std.specs.List.{All, position, position_or_len}
use Rattle.std.proofs.lemmas.Bool.{false≢true, cases_lt, Decides.nat_tests}
use Rattle.std.proofs.lemmas.List.{drop_more, take-append-drop, length-take, get_or-take, take_rest}
use Rattle.std.proofs.lemmas.List.Elements.{All-head, All-tail, All-append, All-cons, All-from_get_or}
use Rattle.std.proofs.lemmas.List.{Quantifiers.position-Some, Sums.fails_before_first}
use Rattle.replay.specs.Spelling.{SpellsNumber, SpellsCount, IsStep, IsRun, SpellsPiece}
use Rattle.replay.specs.{declared.piece.Piece.Piece, inner.Piece.IsHeldAs}
use Rattle.replay.proofs.NumberTexts.{digits_without, number_digits, number_once, count_once}

abbrev Without : ℕ → List ℕ → Type 0
Without c bs = All (λ b. (b == c) ≡ false) bs

pub same_test : (c : ℕ) → (c == c) ≡ true
same_test c = grind (arith, nat_tests)

-- heads and tails of equal lists
module _ {X : Type 0} where
  pub heads : (x y : X) (xs ys : List X) → x ∷ xs ≡ y ∷ ys → x ≡ y
  heads x y xs ys e = ap (λ l. get_or l 0 x) e

  pub tails : (x y : X) (xs ys : List X) → x ∷ xs ≡ y ∷ ys → xs ≡ ys
  tails x y xs ys e = ap (drop 1) e

-- what is without a byte doesn't have it
pub has_none : (c : ℕ) (a b : List ℕ) → Without c (a ++ c ∷ b) → ⊥
has_none c [] b h = false≢true (sym (All-head (λ k. (k == c) ≡ false) c b h) ∙ same_test c)
has_none c (x ∷ a) b h = has_none c a b (All-tail (λ k. (k == c) ≡ false) x (a ++ c ∷ b) h)

-- a list is cut once at the first of a byte
cut_once : (c : ℕ) (a b d e : List ℕ) → Without c a → Without c d → a ++ c ∷ b ≡ d ++ c ∷ e →
    (a ≡ d) × (b ≡ e)
cut_once c [] b [] e ha hd same = (refl, tails c c b e same)
cut_once c [] b (y ∷ d) e ha hd same =
    absurd (false≢true
    (sym (All-head (λ k. (k == c) ≡ false) y d hd)
    ∙ ap (λ k. k == c) (sym (heads c y b (d ++ c ∷ e) same)) ∙ same_test c))
cut_once c (x ∷ a) b [] e ha hd same =
    absurd (false≢true
    (sym (All-head (λ k. (k == c) ≡ false) x a ha)
    ∙ ap (λ k. k == c) (heads x c (a ++ c ∷ b) e same) ∙ same_test c))
cut_once c (x ∷ a) b (y ∷ d) e ha hd same =
    let first : x ≡ y = heads x y (a ++ c ∷ b) (d ++ c ∷ e) same in
    let rest = cut_once c a b d e (All-tail (λ k. (k == c) ≡ false) x a ha)
    (All-tail (λ k. (k == c) ≡ false) y d hd) (tails x y (a ++ c ∷ b) (d ++ c ∷ e) same) in
    (λ i. first i ∷ rest.0 i, rest.1)

-- numbers and counts have neither `x` nor a comma
pub number_without : (text : List ℕ) (t c : ℕ) → SpellsNumber text t → (c < 48) ⊎ (57 < c) →
    Without c text
number_without text t c s apart = digits_without text c (number_digits text t s).1 apart

pub count_without : (text : List ℕ) (n c : ℕ) → SpellsCount text n → (c < 48) ⊎ (57 < c) →
    Without c text
count_without text n c s apart = digits_without text c s.digits.1 apart

number_no_x : (text : List ℕ) (t : ℕ) → SpellsNumber text t → Without 120 text
number_no_x text t s = number_without text t 120 s (inr (omega arith))

-- a piece has no byte below the digits, as a comma or a minus
pub piece_without : (text : List ℕ) (piece : Piece) (c : ℕ) → c < 48 → SpellsPiece text piece →
    Without c text
piece_without text piece c low (inl s) = number_without text piece.thread c s.number (inl low)
piece_without text piece c low (inr r) = subst (Without c) (sym r.written)
    (All-append (λ b. (b == c) ≡ false) r.number (120 ∷ r.count)
    (number_without r.number piece.thread c r.thread (inl low))
    (All-cons (λ b. (b == c) ≡ false) 120 r.count (grind (arith, nat_tests, low))
    (count_without r.count piece.count c r.times (inl low))))

-- parts of a run
run_parts : (text a b : List ℕ) (piece : Piece) → text ≡ a ++ 120 ∷ b → Without 120 a →
    (r : IsRun text piece) → (a ≡ r.number) × (b ≡ r.count)
run_parts text a b piece e none r =
    cut_once 120 a b r.number r.count none (number_no_x r.number piece.thread r.thread)
    (sym e ∙ r.written)

no_step_with_x : (text a b : List ℕ) (piece : Piece) → text ≡ a ++ 120 ∷ b → IsStep text piece → ⊥
no_step_with_x text a b piece e s =
    has_none 120 a b (subst (Without 120) e (number_no_x text piece.thread s.number))

-- a text is one piece
pub piece_once : (text : List ℕ) (p q : Piece) → SpellsPiece text p → SpellsPiece text q → p ≡ q
piece_once text p q (inl s) (inl t) =
    let thread : p.thread ≡ q.thread = number_once text p.thread q.thread s.number t.number in
    let count : p.count ≡ q.count = s.once ∙ sym t.once in
    λ i. record { thread = thread i; count = count i }
piece_once text p q (inl s) (inr r) = absurd (no_step_with_x text r.number r.count p r.written s)
piece_once text p q (inr r) (inl s) = absurd (no_step_with_x text r.number r.count q r.written s)
piece_once text p q (inr r) (inr u) =
    let parts = run_parts text r.number r.count q r.written
    (number_no_x r.number p.thread r.thread) u in
    let thread : p.thread ≡ q.thread =
    number_once r.number p.thread q.thread r.thread
    (subst (λ n. SpellsNumber n q.thread) (sym parts.0) u.thread) in
    let count : p.count ≡ q.count =
    count_once r.count p.count q.count r.times
    (subst (λ n. SpellsCount n q.count) (sym parts.1) u.times) in
    λ i. record { thread = thread i; count = count i }

-- without an `x` a piece is a number
pub number_or_none : (text : List ℕ) (piece : Piece) → Without 120 text →
    SpellsPiece text piece → SpellsNumber text piece.thread
number_or_none text piece none (inl s) = s.number
number_or_none text piece none (inr r) =
    absurd (has_none 120 r.number r.count (subst (Without 120) r.written none))

-- with an `x` it is a run
pub run_or_none : (text a b : List ℕ) (piece : Piece) → text ≡ a ++ 120 ∷ b → Without 120 a →
    SpellsPiece text piece → SpellsNumber a piece.thread × SpellsCount b piece.count
run_or_none text a b piece e none (inl s) = absurd (no_step_with_x text a b piece e s)
run_or_none text a b piece e none (inr r) =
    let parts = run_parts text a b piece e none r in (
      subst (λ n. SpellsNumber n piece.thread) (sym parts.0) r.thread,
      subst (λ n. SpellsCount n piece.count) (sym parts.1) r.times,
    )

abbrev is_x : ℕ → Bool
is_x b = b == 120

some_is_none : (k : ℕ) (b : Bool) → b ≡ true → cond b (Some k) None ≡ None → ⊥
some_is_none k b t e = cc

-- before the first `x`
before_first : (text : List ℕ) (k i d : ℕ) →
    ((j : ℕ) → j < k → (get_or text j d == 120) ≡ false) → i < length (take k text) →
    (get_or (take k text) i d == 120) ≡ false
before_first text k i d none l =
    let short : length (take k text) ≤ k = let t = length-take k text in omega (arith, t) in
    let inside : i < k = omega (arith, l, short) in
    ap (λ b. b == 120) (get_or-take k text i d inside) ∙ none i inside

-- where the first `x` is
pub cut_at_x : (text : List ℕ) (k : ℕ) → position (λ b. b == 120) text ≡ Some k →
    (text ≡ take k text ++ 120 ∷ take (length text - (k + 1)) (drop (k + 1) text)) × Without 120
    (take k text)
cut_at_x text k e =
    let found = position-Some (λ b. b == 120) text k 0 e in
    let here : get_or text k 0 ≡ 120 = grind (arith, nat_tests, found.1) in (
      sym (take-append-drop k text)
          ∙ ap (λ r. take k text ++ r)
          (drop_more text k 0 found.0 ∙ (λ i. here i ∷ sym (take_rest text (k + 1)) i)),
      All-from_get_or (λ b. (b == 120) ≡ false) (take k text) 0
          (λ i l. before_first text k i 0 found.2 l),
    )

pub no_x : (text : List ℕ) → position (λ b. b == 120) text ≡ None → Without 120 text
no_x text e = elim (cases_lt (position_or_len is_x text) (length text)) [
  | inl inside ↦
      absurd (some_is_none (position_or_len is_x text)
      (nat_lt (position_or_len is_x text) (length text)) (grind (arith, nat_tests, inside)) e)
  | inr past ↦ λ k d l. fails_before_first is_x text k d (omega (arith, l, past))
]

-- a piece held
pub run_held : (text a b : List ℕ) (t held n : ℕ) → text ≡ a ++ 120 ∷ b → SpellsNumber a t →
    SpellsCount b n → held ≡ min n (2 ^ 64 - 1) →
    IsHeldAs text (record { thread = t; count = held })
run_held text a b t held n e s c h = record {
  count = n;
  spelt = inr (record { number = a; count = b; written = e; thread = s; times = c });
  bounded = h;
}
