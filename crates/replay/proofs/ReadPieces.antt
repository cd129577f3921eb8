-- A text that is read piece by piece.
use Rattle.std.proofs.Common.{◌≡◌, ℕ, ◌+◌, ◌-◌, ◌<◌, ◌≤◌, ◌==◌, Bool, false, cond, List, [], ◌∷◌, ◌++◌, length, map, take, drop, replicate, get_or, refl, ap, ◌∙◌, sym, subst, arith, codes, append-nil, length-append, Option, Some, None, IsSome, zero, suc}
use Rattle.std.specs.{Fn.CalledAt, List.{AllZip, slice_split, join_with_byte}, Option.MatchOption}
use Rattle.std.{specs.Str.bytes_eq, proofs.lemmas.Iterator.YieldsList}
use Rattle.std.proofs.lemmas.Iterator.{Consumers.YieldsList-at, Splits.YieldsList-from_slice_split}
use Rattle.std.proofs.lemmas.List.{take-append-drop, drop_more, length-replicate, map_push}
use Rattle.std.proofs.lemmas.List.{Concat.flat_map-append, Splits.join_with_byte-slice_split}
use Rattle.std.proofs.lemmas.List.Sums.{sum_by-cons, sum_by-append}
use Rattle.std.specs.Slice.Iter as slice
use denote.{Param.Members.Mut, Ref.Bor}
use Rattle.replay.specs.Spelling.{SpellsPiece, IsPiece, SpellEach, Spells, pieces_of, steps_of, length_with_commas, IsReadUpTo, IsBadAt, IsTooLongAt, IsReadable}
use Rattle.replay.specs.{declared.piece.Piece.Piece, inner.Piece.IsHeldAs}
use Rattle.replay.proofs.SpelledOnce.{piece_inside, steps_before, each_once}

-- a text that isn't `-`, cut at its commas
abbrev pub cuts : List ℕ → List (List ℕ)
cuts text = slice_split (λ b. b == 44) text

-- a split at each comma yields them
pub yields_cuts : {F : Type 0} {s t : _} (g : Mut F (Bor ℕ × Unit {0}) Bool) {f : F} {text : List ℕ} →
    t ≡ s → slice.split_rest s ≡ text → slice.split_done s ≡ false → slice.split_callee s ≡ f →
    ((x : ℕ) (b : Bool) (q : F) → CalledAt g f x b q → (q ≡ f) × (b ≡ (x == 44))) →
    YieldsList (slice.split_steps g) (λ x. x.now) t (cuts text)
yields_cuts g {text = text} gives rest done closure tests =
    YieldsList-at gives (YieldsList-from_slice_split g (λ b. b == 44) text rest done closure tests)

-- the piece that comes after those before it
abbrev pub IsNext : List ℕ → List (Bor (List ℕ)) → Bor (List ℕ) → Type 0
IsNext text before piece = (map (λ x. x.now) before ≡ take (length before) (cuts text))
    × (length before < length (cuts text))
    × (piece.now ≡ get_or (cuts text) (length before) piece.now)

pieces_are : (text : List ℕ) → bytes_eq text (codes "-") ≡ false → pieces_of text ≡ cuts text
pieces_are text some = ap (λ b. cond b [] (cuts text)) some

-- texts spell a schedule of this number of places, and no more than are read
pub record IsRead (texts : List (List ℕ)) (places : ℕ) : Type 0 where
  pub w : List ℕ
  pub spelt : SpellEach texts w
  pub counted : places ≡ length w
  pub short : places ≤ 32768

-- one more piece
zip_push : (texts : List (List ℕ)) (ps : List Piece) (text : List ℕ) (p : Piece) →
    AllZip SpellsPiece texts ps → SpellsPiece text p →
    AllZip SpellsPiece (texts ++ text ∷ []) (ps ++ p ∷ [])
zip_push [] [] text p s here = (here, tt)
zip_push [] (q ∷ ps) text p s here = absurd s
zip_push (x ∷ texts) [] text p s here = absurd s
zip_push (x ∷ texts) (q ∷ ps) text p s here = (s.0, zip_push texts ps text p s.1 here)

pub each_push : (texts : List (List ℕ)) (w text : List ℕ) (p : Piece) → SpellEach texts w →
    SpellsPiece text p → SpellEach (texts ++ text ∷ []) (w ++ replicate p.count p.thread)
each_push texts w text p s here = record {
  pieces = s.pieces ++ p ∷ [];
  spelt = zip_push texts s.pieces text p s.spelt here;
  steps = ap (λ v. v ++ replicate p.count p.thread) s.steps
      ∙ sym (flat_map-append (λ (q : Piece). replicate q.count q.thread) s.pieces (p ∷ [])
      ∙ ap (λ v. steps_of s.pieces ++ v) (append-nil (replicate p.count p.thread)));
}

pub read_more : (texts : List (List ℕ)) (text : List ℕ) (held : Piece) (places : ℕ) →
    IsRead texts places → IsHeldAs text held → held.count ≤ 32768 - places →
    IsRead (texts ++ text ∷ []) (places + held.count)
read_more texts text held places old h fits =
    let count : held.count ≡ h.count = let b = h.bounded in let s = old.short in
    omega (arith, b, fits, s) in
    let p : Piece = record { thread = held.thread; count = h.count } in
    record {
      w = old.w ++ replicate h.count held.thread;
      spelt = each_push texts old.w text p old.spelt h.spelt;
      counted = let c = old.counted in let l =
          length-append old.w (replicate h.count held.thread) in let r =
          length-replicate h.count held.thread in omega (arith, c, l, r, count);
      short = let s = old.short in omega (arith, s, fits);
    }

-- the piece at a place
up_to : (text : List ℕ) (k at : ℕ) (piece : List ℕ) (places : ℕ) →
    bytes_eq text (codes "-") ≡ false → k < length (cuts text) →
    piece ≡ get_or (cuts text) k piece → (r : IsRead (take k (cuts text)) places) →
    at ≡ length_with_commas (take k (cuts text)) → IsReadUpTo text at piece r.w
up_to text k at piece places some l is r offset = record {
  before = take k (cuts text);
  after = drop (k + 1) (cuts text);
  cut = pieces_are text some ∙ sym (take-append-drop k (cuts text))
      ∙ ap (λ x. take k (cuts text) ++ x)
      (drop_more (cuts text) k piece l ∙ ap (λ x. x ∷ drop (k + 1) (cuts text)) (sym is));
  spelt = r.spelt;
  short = let s = r.short in let c = r.counted in omega (arith, s, c);
  offset = offset;
}

pub bad_here : (text : List ℕ) (k at : ℕ) (piece : List ℕ) (places : ℕ) →
    bytes_eq text (codes "-") ≡ false → k < length (cuts text) →
    piece ≡ get_or (cuts text) k piece → IsRead (take k (cuts text)) places →
    at ≡ length_with_commas (take k (cuts text)) → ¬ (IsPiece piece) → IsBadAt text at
bad_here text k at piece places some l is r offset bad =
    record {
      piece = piece;
      w = r.w;
      read =
          up_to text k at piece places some l is r offset;
      bad = bad;
    }

pub long_here : (text : List ℕ) (k at : ℕ) (piece : List ℕ) (held : Piece) (places : ℕ) →
    bytes_eq text (codes "-") ≡ false → k < length (cuts text) →
    piece ≡ get_or (cuts text) k piece → IsRead (take k (cuts text)) places →
    at ≡ length_with_commas (take k (cuts text)) → IsHeldAs piece held →
    32768 - places < held.count → IsTooLongAt text at
long_here text k at piece held places some l is r offset h long = record {
  piece = piece;
  w = r.w;
  read = up_to text k at piece places some l is r offset;
  steps = record { thread = held.thread; count = h.count };
  spelt = h.spelt;
  long = let b = h.bounded in let c = r.counted in let s = r.short in omega (arith, b, c, s, long);
}

pub readable_all : (text : List ℕ) (places : ℕ) → bytes_eq text (codes "-") ≡ false →
    IsRead (cuts text) places → IsReadable text
readable_all text places some r = record {
  w = r.w;
  spelt = subst (λ ts. SpellEach ts r.w) (sym (pieces_are text some)) r.spelt;
  short = let s = r.short in let c = r.counted in omega (arith, s, c);
}

-- a piece and what comes before it are no longer than the text
commas : (x : List ℕ) (xs : List (List ℕ)) →
    length_with_commas (x ∷ xs) ≡ (length x + 1) + length_with_commas xs
commas x xs = sum_by-cons (λ piece. length piece + 1) x xs

lengths : (x : List ℕ) (xs : List (List ℕ)) →
    length_with_commas (x ∷ xs) ≡ length (join_with_byte 44 (x ∷ xs)) + 1
lengths x [] = let s = commas x [] in omega (arith, s)
lengths x (y ∷ ys) = let s = commas x (y ∷ ys) in let l =
    length-append x (44 ∷ join_with_byte 44 (y ∷ ys)) in let r = lengths y ys in
    omega (arith, l, r, s)

fits_in : (ps : List (List ℕ)) (k : ℕ) (piece : List ℕ) → k < length ps →
    length_with_commas (take k ps) + (length (get_or ps k piece) + 1) ≤ length_with_commas ps
fits_in [] k piece l = absurd (omega (arith, l))
fits_in (x ∷ xs) zero piece l = let s = commas x xs in omega (arith, s)
fits_in (x ∷ xs) (suc k) piece l = let r = fits_in xs k piece (omega (arith, l)) in let s =
    commas x xs in let t = commas x (take k xs) in omega (arith, r, s, t)

all_fit : (ps : List (List ℕ)) (text : List ℕ) → text ≡ join_with_byte 44 ps →
    length_with_commas ps ≤ length text + 1
all_fit [] text e = omega arith
all_fit (x ∷ xs) text e = rw e (let l = lengths x xs in omega (arith, l))

pub offset_fits : (text piece : List ℕ) (k at : ℕ) → k < length (cuts text) →
    piece ≡ get_or (cuts text) k piece → at ≡ length_with_commas (take k (cuts text)) →
    at + (length piece + 1) ≤ length text + 1
offset_fits text piece k at l is place =
    let whole = all_fit (cuts text) text (sym (join_with_byte-slice_split 44 text)) in
    let part = fits_in (cuts text) k piece l in
    let long : length piece ≡ length (get_or (cuts text) k piece) = ap length is in
    omega (arith, whole, part, long, place)

pub commas_push : (ps : List (List ℕ)) (piece : List ℕ) (at : ℕ) → at ≡ length_with_commas ps →
    at + (length piece + 1) ≡ length_with_commas (ps ++ piece ∷ [])
commas_push ps piece at e = let s =
    sum_by-append (λ (p : List ℕ). length p + 1) ps (piece ∷ []) in let one = commas piece [] in
    omega (arith, s, one, e)

-- in a text that is readable each piece is one, and no longer than what is read
readable_cut : (text : List ℕ) (k : ℕ) (piece : List ℕ) → bytes_eq text (codes "-") ≡ false →
    k < length (cuts text) → piece ≡ get_or (cuts text) k piece → (r : IsReadable text) →
    SpellEach (take k (cuts text) ++ piece ∷ drop (k + 1) (cuts text)) r.w
readable_cut text k piece some l is r =
    subst (λ ts. SpellEach ts r.w)
    (pieces_are text some ∙ sym (take-append-drop k (cuts text))
    ∙ ap (λ x. take k (cuts text) ++ x)
    (drop_more (cuts text) k piece l ∙ ap (λ x. x ∷ drop (k + 1) (cuts text)) (sym is))) r.spelt

pub is_piece_here : (text : List ℕ) (k : ℕ) (piece : List ℕ) →
    bytes_eq text (codes "-") ≡ false → k < length (cuts text) →
    piece ≡ get_or (cuts text) k piece → IsReadable text → IsPiece piece
is_piece_here text k piece some l is r =
    let s = readable_cut text k piece some l is r in
    piece_inside (take k (cuts text)) piece (drop (k + 1) (cuts text)) s.pieces s.spelt

pub there_is_one : (r : Option Piece) (text : List ℕ) →
    MatchOption r (¬ (IsPiece text)) (IsHeldAs text) → IsPiece text → IsSome r
there_is_one None text h p = absurd (h p)
there_is_one (Some x) text h p = refl

pub held_one : (r : Option Piece) (text : List ℕ) (p : Piece) →
    MatchOption r (¬ (IsPiece text)) (IsHeldAs text) → r ≡ Some p → IsHeldAs text p
held_one r text p h e = subst (λ o. MatchOption o (¬ (IsPiece text)) (IsHeldAs text)) e h

-- the steps of one more piece of a readable text
pub steps_more : (text : List ℕ) (k : ℕ) (piece w more : List ℕ) (held : Piece) →
    bytes_eq text (codes "-") ≡ false → k < length (cuts text) →
    piece ≡ get_or (cuts text) k piece → IsReadable text → SpellEach (take k (cuts text)) w →
    IsHeldAs piece held → more ≡ w ++ replicate held.count held.thread →
    SpellEach (take k (cuts text) ++ piece ∷ []) more
steps_more text k piece w more held some l is r old h e =
    let s = readable_cut text k piece some l is r in
    let p : Piece = record { thread = held.thread; count = h.count } in
    let most = steps_before (take k (cuts text)) piece (drop (k + 1) (cuts text)) s.pieces
    old.pieces p s.spelt old.spelt h.spelt in
    let whole : length r.w ≡ length (steps_of s.pieces) = ap length s.steps in
    let short = r.short in
    let bounded = h.bounded in
    let count : held.count ≡ h.count = omega (arith, most, whole, short, bounded) in
    subst (SpellEach (take k (cuts text) ++ piece ∷ []))
    (sym (e ∙ ap (λ n. w ++ replicate n held.thread) count))
    (each_push (take k (cuts text)) w piece p old h.spelt)

-- the same of items that a `for` has yielded
module _ {A : Type 0} where
  pub more_read : (shown : A → List ℕ) (xs : List A) (x : A) (held : Piece) (places : ℕ) →
      IsRead (map shown xs) places → IsHeldAs (shown x) held → held.count ≤ 32768 - places →
      IsRead (map shown (xs ++ x ∷ [])) (places + held.count)
  more_read shown xs x held places old h fits =
      subst (λ ts. IsRead ts (places + held.count)) (sym (map_push shown xs x))
      (read_more (map shown xs) (shown x) held places old h fits)

  pub more_offset : (shown : A → List ℕ) (xs : List A) (x : A) (at : ℕ) →
      at ≡ length_with_commas (map shown xs) →
      at + (length (shown x) + 1) ≡ length_with_commas (map shown (xs ++ x ∷ []))
  more_offset shown xs x at e = commas_push (map shown xs) (shown x) at e
      ∙ ap length_with_commas (sym (map_push shown xs x))

  pub more_steps : (shown : A → List ℕ) (text : List ℕ) (xs : List A) (x : A) (w more : List ℕ)
      (held : Piece) → bytes_eq text (codes "-") ≡ false →
      map shown xs ≡ take (length xs) (cuts text) → length xs < length (cuts text) →
      shown x ≡ get_or (cuts text) (length xs) (shown x) → IsReadable text →
      SpellEach (map shown xs) w → IsHeldAs (shown x) held →
      more ≡ w ++ replicate held.count held.thread → SpellEach (map shown (xs ++ x ∷ [])) more
  more_steps shown text xs x w more held some before l is r old h e =
      subst (λ ts. SpellEach ts more)
      (ap (λ ts. ts ++ shown x ∷ []) (sym before) ∙ sym (map_push shown xs x))
      (steps_more text (length xs) (shown x) w more held some l is r
      (subst (λ ts. SpellEach ts w) before old) h e)

pub steps_all : (text w : List ℕ) → bytes_eq text (codes "-") ≡ false → SpellEach (cuts text) w →
    Spells text w
steps_all text w some s = subst (λ ts. SpellEach ts w) (sym (pieces_are text some)) s

pub all_short : (text w : List ℕ) → Spells text w → IsReadable text → length w ≤ 32768
all_short text w s r = let same : length w ≡ length r.w =
    ap length (each_once (pieces_of text) w r.w s r.spelt) in let short = r.short in
    omega (arith, same, short)
