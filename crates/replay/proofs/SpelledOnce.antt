-- What a text spells it spells once, and one error fits a text.
use Rattle.std.proofs.Common.{◌≡◌, ◌⊎◌, ℕ, ◌+◌, ◌<◌, ◌≤◌, List, [], ◌∷◌, ◌++◌, length, replicate, refl, ap, ◌∙◌, sym, subst, arith, inl, inr}
use Rattle.std.{specs.List.AllZip, proofs.lemmas.List.{length-append, length-replicate}}
use Rattle.replay.specs.Spelling.{SpellsPiece, IsPiece, SpellEach, Spells, pieces_of, steps_of, length_with_commas, IsReadUpTo, IsBadAt, IsTooLongAt, IsReadable, ScheduleErrorMeans}
use Rattle.replay.specs.declared.error.ScheduleError.{ScheduleError}
use Rattle.replay.specs.declared.error.ScheduleError.TheVariants.{BadSchedule, TooLong, OutOfMemory}
use Rattle.replay.{specs.declared.piece.Piece.Piece, proofs.PieceTexts.{piece_once, heads, tails}}

-- texts spell their pieces once
pub pieces_once : (texts : List (List ℕ)) (ps qs : List Piece) → AllZip SpellsPiece texts ps →
    AllZip SpellsPiece texts qs → ps ≡ qs
pieces_once [] [] [] s r = refl
pieces_once [] [] (q ∷ qs) s r = absurd r
pieces_once [] (p ∷ ps) qs s r = absurd s
pieces_once (text ∷ texts) [] qs s r = absurd s
pieces_once (text ∷ texts) (p ∷ ps) [] s r = absurd r
pieces_once (text ∷ texts) (p ∷ ps) (q ∷ qs) s r =
    let first : p ≡ q = piece_once text p q s.0 r.0 in
    let others : ps ≡ qs = pieces_once texts ps qs s.1 r.1 in
    λ i. first i ∷ others i

pub each_once : (texts : List (List ℕ)) (v w : List ℕ) → SpellEach texts v → SpellEach texts w →
    v ≡ w
each_once texts v w s r = s.steps
    ∙ ap steps_of (pieces_once texts s.pieces r.pieces s.spelt r.spelt) ∙ sym r.steps

pub spelt_once : (text v w : List ℕ) → Spells text v → Spells text w → v ≡ w
spelt_once text v w s r = each_once (pieces_of text) v w s r

-- how long the steps of pieces are
steps-cons : (p : Piece) (ps : List Piece) →
    length (steps_of (p ∷ ps)) ≡ p.count + length (steps_of ps)
steps-cons p ps = length-append (replicate p.count p.thread) (steps_of ps)
    ∙ ap (λ n. n + length (steps_of ps)) (length-replicate p.count p.thread)

-- where texts spell pieces, each of them spells one, and its steps come after those before it
pub piece_inside : (before : List (List ℕ)) (text : List ℕ) (after : List (List ℕ))
    (ps : List Piece) → AllZip SpellsPiece (before ++ text ∷ after) ps → IsPiece text
piece_inside [] text after [] s = absurd s
piece_inside [] text after (p ∷ ps) s = (p, s.0)
piece_inside (x ∷ before) text after [] s = absurd s
piece_inside (x ∷ before) text after (p ∷ ps) s = piece_inside before text after ps s.1

pub steps_before : (before : List (List ℕ)) (text : List ℕ) (after : List (List ℕ))
    (ps qs : List Piece) (q : Piece) → AllZip SpellsPiece (before ++ text ∷ after) ps →
    AllZip SpellsPiece before qs → SpellsPiece text q →
    length (steps_of qs) + q.count ≤ length (steps_of ps)
steps_before [] text after [] qs q s r here = absurd s
steps_before [] text after (p ∷ ps) [] q s r here =
    let count : q.count ≡ p.count = ap (λ (x : Piece). x.count) (piece_once text q p here s.0) in
    let long = steps-cons p ps in
    omega (arith, count, long)
steps_before [] text after (p ∷ ps) (z ∷ qs) q s r here = absurd r
steps_before (x ∷ before) text after [] qs q s r here = absurd s
steps_before (x ∷ before) text after (p ∷ ps) [] q s r here = absurd r
steps_before (x ∷ before) text after (p ∷ ps) (z ∷ qs) q s r here =
    let rest = steps_before before text after ps qs q s.1 r.1 here in
    let count : z.count ≡ p.count = ap (λ (y : Piece). y.count) (piece_once x z p r.0 s.0) in
    let long = steps-cons p ps in
    let front = steps-cons z qs in
    omega (arith, rest, count, long, front)

-- a refused text spells nothing short
pub bad_spells_nothing : (text w : List ℕ) (at : ℕ) → IsBadAt text at → Spells text w → ⊥
bad_spells_nothing text w at b s =
    b.bad (piece_inside b.read.before b.piece b.read.after s.pieces
    (subst (λ ts. AllZip SpellsPiece ts s.pieces) b.read.cut s.spelt))

with_piece : (text : List ℕ) (at : ℕ) (piece v w : List ℕ) (q : Piece) →
    IsReadUpTo text at piece v → SpellsPiece piece q → Spells text w → length v + q.count ≤ length w
with_piece text at piece v w q read here s =
    let most = steps_before read.before piece read.after s.pieces read.spelt.pieces q
    (subst (λ ts. AllZip SpellsPiece ts s.pieces) read.cut s.spelt) read.spelt.spelt here in
    let short : length v ≡ length (steps_of read.spelt.pieces) = ap length read.spelt.steps in
    let long : length w ≡ length (steps_of s.pieces) = ap length s.steps in
    omega (arith, most, short, long)

pub long_spells_long : (text w : List ℕ) (at : ℕ) → IsTooLongAt text at → Spells text w →
    32768 < length w
long_spells_long text w at l s = let most =
    with_piece text at l.piece l.w w l.steps l.read l.spelt s in omega (arith, most, l.long)

-- a piece that isn't taken after these steps
abbrev IsRefused : List ℕ → List ℕ → Type 0
IsRefused v piece =
    ¬ (IsPiece piece) ⊎ ((q : Piece) × SpellsPiece piece q × (32768 < length v + q.count))

-- a piece that isn't taken is in no texts that spell a short schedule and are read up to it alike
none_taken : (before : List (List ℕ)) (piece : List ℕ) (after : List (List ℕ)) (v w : List ℕ) →
    SpellEach before v → IsRefused v piece → SpellEach (before ++ piece ∷ after) w →
    length w ≤ 32768 → ⊥
none_taken before piece after v w read (inl bad) s short =
    bad (piece_inside before piece after s.pieces s.spelt)
none_taken before piece after v w read (inr l) s short =
    let most = steps_before before piece after s.pieces read.pieces l.0 s.spelt read.spelt l.1 in
    let front : length v ≡ length (steps_of read.pieces) = ap length read.steps in
    let whole : length w ≡ length (steps_of s.pieces) = ap length s.steps in
    let long = l.2 in
    omega (arith, most, front, whole, short, long)

-- two cuts of a list: at one place, or one before the other
pub two_cuts : (f g : List (List ℕ)) (x y : List ℕ) (xs ys : List (List ℕ)) →
    f ++ x ∷ xs ≡ g ++ y ∷ ys →
    ((f ≡ g) × (x ≡ y))
    ⊎ (((more : List (List ℕ)) × (g ≡ f ++ x ∷ more))
    ⊎ ((more : List (List ℕ)) × (f ≡ g ++ y ∷ more)))
two_cuts [] [] x y xs ys e = inl (refl, heads x y xs ys e)
two_cuts [] (q ∷ g) x y xs ys e =
    inr (inl (g, ap (λ t. t ∷ g) (sym (heads x q xs (g ++ y ∷ ys) e))))
two_cuts (p ∷ f) [] x y xs ys e = inr (inr (f, ap (λ t. t ∷ f) (heads p y (f ++ x ∷ xs) ys e)))
two_cuts (p ∷ f) (q ∷ g) x y xs ys e =
    let first : p ≡ q = heads p q (f ++ x ∷ xs) (g ++ y ∷ ys) e in
    elim (two_cuts f g x y xs ys (tails p q (f ++ x ∷ xs) (g ++ y ∷ ys) e)) [
      | inl same ↦ inl (λ i. first i ∷ same.0 i, same.1)
      | inr (inl m) ↦ inr (inl (m.0, λ i. sym first i ∷ m.1 i))
      | inr (inr m) ↦ inr (inr (m.0, λ i. first i ∷ m.1 i))
    ]

-- two readings that stop, stop at one piece
record SamePlace (text : List ℕ) (a b : ℕ) (v w x y : List ℕ) : Type 0 where
  offset : a ≡ b
  read : v ≡ w
  piece : x ≡ y

same_place : (text : List ℕ) (a b : ℕ) (v w x y : List ℕ) → (r : IsReadUpTo text a x v) →
    (s : IsReadUpTo text b y w) → IsRefused v x → IsRefused w y → SamePlace text a b v w x y
same_place text a b v w x y r s rx sy =
    elim (two_cuts r.before s.before x y r.after s.after (sym r.cut ∙ s.cut)) [
      | inl same ↦ record {
        offset = r.offset ∙ ap length_with_commas same.0 ∙ sym s.offset;
        read = each_once s.before v w (subst (λ ts. SpellEach ts v) same.0 r.spelt) s.spelt;
        piece = same.1;
      }
      | inr (inl m) ↦
          absurd (none_taken r.before x m.0 v w r.spelt rx
          (subst (λ ts. SpellEach ts w) m.1 s.spelt)
          s.short)
      | inr (inr m) ↦
          absurd (none_taken s.before y m.0 w v s.spelt sy
          (subst (λ ts. SpellEach ts v) m.1 r.spelt)
          r.short)
    ]

readable_not_refused : (text : List ℕ) (at : ℕ) (v x : List ℕ) → IsReadUpTo text at x v →
    IsRefused v x → IsReadable text → ⊥
readable_not_refused text at v x read refused r =
    none_taken read.before x read.after v r.w read.spelt refused
    (subst (λ ts. SpellEach ts r.w) read.cut r.spelt) r.short

bad_refused : (text : List ℕ) (at : ℕ) → (b : IsBadAt text at) → IsRefused b.w b.piece
bad_refused text at b = inl b.bad

long_refused : (text : List ℕ) (at : ℕ) → (l : IsTooLongAt text at) → IsRefused l.w l.piece
long_refused text at l = inr (l.steps, l.spelt, l.long)

-- one error fits
pub one_error : (text : List ℕ) (e f : ScheduleError) → ScheduleErrorMeans text e →
    ScheduleErrorMeans text f → e ≡ f
one_error text (BadSchedule a) (BadSchedule b) h k =
    ap BadSchedule
    (same_place text a b h.w k.w h.piece k.piece h.read k.read (bad_refused text a h)
    (bad_refused text b k)).offset
one_error text (BadSchedule a) (TooLong b) h k =
    let same = same_place text a b h.w k.w h.piece k.piece h.read k.read (bad_refused text a h)
    (long_refused text b k) in
    absurd (h.bad (k.steps, subst (λ t. SpellsPiece t k.steps) (sym same.piece) k.spelt))
one_error text (BadSchedule a) OutOfMemory h k =
    absurd (readable_not_refused text a h.w h.piece h.read (bad_refused text a h) k)
one_error text (TooLong a) (BadSchedule b) h k =
    let same = same_place text a b h.w k.w h.piece k.piece h.read k.read (long_refused text a h)
    (bad_refused text b k) in
    absurd (k.bad (h.steps, subst (λ t. SpellsPiece t h.steps) same.piece h.spelt))
one_error text (TooLong a) (TooLong b) h k =
    ap TooLong (same_place text a b h.w k.w h.piece k.piece h.read k.read (long_refused text a h)
    (long_refused text b k)).offset
one_error text (TooLong a) OutOfMemory h k =
    absurd (readable_not_refused text a h.w h.piece h.read (long_refused text a h) k)
one_error text OutOfMemory (BadSchedule b) h k =
    absurd (readable_not_refused text b k.w k.piece k.read (bad_refused text b k) h)
one_error text OutOfMemory (TooLong b) h k =
    absurd (readable_not_refused text b k.w k.piece k.read (long_refused text b k) h)
one_error text OutOfMemory OutOfMemory h k = refl
