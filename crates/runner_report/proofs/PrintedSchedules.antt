-- A text that spells a schedule is ASCII, so it is UTF-8.
use Rattle.std.proofs.Common.{◌≡◌, inl, inr, sym, subst, refl, arith, ℕ, ◌<◌, ◌==◌, Bool, true}
use Rattle.std.proofs.Common.{false, cond, List, [], ◌∷◌, ◌++◌, codes}
use Rattle.std.specs.{Fmt.decimal, List.{AllZip, slice_split, join_with_byte}}
use Rattle.std.specs.Str.{IsUtf8, is_utf8, chars, bytes_eq}
use Rattle.std.proofs.lemmas.Fmt.{IsAscii-decimal, IsAscii-from_digits}
use Rattle.std.proofs.lemmas.{List.Splits.join_with_byte-slice_split, Slice.Eq.bytes_eq-Decides}
use Rattle.std.proofs.lemmas.Str.{IsUtf8-append, IsUtf8-nil, IsUtf8-from_ascii, IsUtf8-from_is_utf8}
use lib.Utf8.{encode}
use Rattle.replay.specs.Spelling.{SpellsNumber, SpellsCount, SpellsPiece, Spells}
use Rattle.replay.specs.declared.piece.Piece.{Piece}

x_utf8 : IsUtf8 (codes "x")
unfolding is_utf8 chars encode
x_utf8 = IsUtf8-from_is_utf8 (codes "x") refl

comma_utf8 : IsUtf8 (codes ",")
unfolding is_utf8 chars encode
comma_utf8 = IsUtf8-from_is_utf8 (codes ",") refl

dash_utf8 : IsUtf8 (codes "-")
unfolding is_utf8 chars encode
dash_utf8 = IsUtf8-from_is_utf8 (codes "-") refl

number_utf8 : (text : List ℕ) (t : ℕ) → SpellsNumber text t → IsUtf8 text
number_utf8 text t h =
    let small : t < 256 = h.small in
    subst IsUtf8 (sym h.written)
    (IsUtf8-from_ascii (decimal t) (IsAscii-decimal t (omega (arith, small))))

count_utf8 : (text : List ℕ) (n : ℕ) → SpellsCount text n → IsUtf8 text
count_utf8 text n h = IsUtf8-from_ascii text (IsAscii-from_digits text h.digits.1)

piece_utf8 : (text : List ℕ) (piece : Piece) → SpellsPiece text piece → IsUtf8 text
piece_utf8 text piece (inl h) = number_utf8 text piece.thread h.number
piece_utf8 text piece (inr h) =
    subst IsUtf8 (sym h.written)
    (IsUtf8-append h.number (codes "x" ++ h.count) (number_utf8 h.number piece.thread h.thread)
    (IsUtf8-append (codes "x") h.count x_utf8
    (count_utf8 h.count piece.count h.times)))

joined_utf8 : (texts : List (List ℕ)) (pieces : List Piece) → AllZip SpellsPiece texts pieces
    → IsUtf8 (join_with_byte 44 texts)
joined_utf8 [] [] h = IsUtf8-nil
joined_utf8 (x ∷ []) (p ∷ []) h = piece_utf8 x p h.0
joined_utf8 (x ∷ y ∷ xs) (p ∷ q ∷ ps) h =
    IsUtf8-append x (44 ∷ join_with_byte 44 (y ∷ xs)) (piece_utf8 x p h.0)
    (IsUtf8-append (codes ",") (join_with_byte 44 (y ∷ xs))
    comma_utf8 (joined_utf8 (y ∷ xs) (q ∷ ps) h.1))
joined_utf8 [] (p ∷ ps) h = absurd h
joined_utf8 (x ∷ xs) [] h = absurd h
joined_utf8 (x ∷ []) (p ∷ q ∷ ps) h = absurd h.1
joined_utf8 (x ∷ y ∷ xs) (p ∷ []) h = absurd h.1

pub spelling_utf8 : (text w : List ℕ) → Spells text w → IsUtf8 text
spelling_utf8 text w h = go (bytes_eq text (codes "-")) refl h.pieces h.spelt
  where
    go : (b : Bool) → bytes_eq text (codes "-") ≡ b → (pieces : List Piece)
        → AllZip SpellsPiece (cond b [] (slice_split (λ c. c == 44) text)) pieces → IsUtf8 text
    go true e pieces each =
        subst IsUtf8 (sym ((bytes_eq-Decides text (codes "-")).0 e))
        dash_utf8
    go false e pieces each =
        subst IsUtf8 (join_with_byte-slice_split 44 text)
        (joined_utf8 (slice_split (λ c. c == 44) text) pieces each)
