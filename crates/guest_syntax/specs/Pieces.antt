-- The pieces of a text that may spell no tree, and its blocks.
use Rattle.std.specs.Prelude.{◌≡◌, ℕ, ◌+◌, ◌-◌, ◌⊎◌, List, [], ◌∷◌, ◌++◌, length, Bool, false, ◌==◌, if◌then◌else◌, Option, Some, None, IsSome, MatchOption, codes}
use Rattle.std.specs.{Option.option_and_then, Str.bytes_eq}
use Rattle.guest_syntax.specs.{Answers.BeginsNone, Place.after}
use Rattle.guest_syntax.specs.Tokens.{TokenKind, Spelling, IsLongest, blank}
use Rattle.guest_syntax.specs.declared.{pieces.Piece.Piece, pieces.Pieces.Pieces, place.Pos.Pos}

-- ---- pieces

-- blanks and comments, and after them nothing, or a byte that is neither blank nor begins a comment
abbrev pub IsGapBefore : List ℕ → List ℕ → Type 0
IsGapBefore gap [] = IsSome (blank false gap)
IsGapBefore gap (b ∷ bs) = (blank false gap ≡ Some false) × (blank false (b ∷ []) ≡ None)

-- a token, the longest that the text and the rest begin with
abbrev pub IsWhole : List ℕ → List ℕ → Type 0
IsWhole text rest = (k : TokenKind) × Spelling k text × IsLongest text rest

-- a byte with which no token begins
abbrev pub IsStray : List ℕ → List ℕ → Type 0
IsStray text rest = (b : ℕ) × (text ≡ b ∷ []) × BeginsNone (b ∷ rest)

-- one piece, what comes before it and what comes after it
pub record BeginsWith (at : Pos) (bytes : List ℕ) (p : Piece) (rest : List ℕ) : Type 0 where
  pub gap : List ℕ
  pub parts : bytes ≡ gap ++ (p.text.now ++ rest)
  pub is_gap : IsGapBefore gap (p.text.now ++ rest)
  pub place : p.at ≡ after at gap
  pub is : IsWhole p.text.now rest ⊎ IsStray p.text.now rest

-- the next piece of what is left of a text, and what is left then
abbrev pub GivesPiece : Pieces → Option Piece → Pieces → Type 0
GivesPiece s r t = MatchOption r
    (IsSome (blank false s.left.rest.now) × (t.left.rest.now ≡ []))
    (λ p. BeginsWith s.left.at s.left.rest.now p t.left.rest.now
    × (t.left.at ≡ after p.at p.text.now))

-- ---- blocks

-- whether a piece is this mark
abbrev pub is_mark : List ℕ → Piece → Bool
is_mark mark p = bytes_eq p.text.now mark

-- how many blocks are open after a piece, where n were before; none where it closes no open block
abbrev pub open_after : Piece → ℕ → Option ℕ
open_after p n = if is_mark (codes "{") p then Some (n + 1)
    else (if is_mark (codes "}") p then (if n == 0 then None else Some (n - 1)) else Some n)

-- how many blocks are open after several pieces; none where one of them closes no open block
abbrev pub all_open_after : List Piece → ℕ → Option ℕ
all_open_after [] n = Some n
all_open_after (p ∷ ps) n = option_and_then (all_open_after ps) (open_after p n)

-- the piece of number n closes a block, and before it each block is closed that is opened, and no
-- other
pub record ClosesAt (ps : List Piece) (n : ℕ) : Type 0 where
  pub inside : List Piece
  pub last : Piece
  pub rest : List Piece
  pub parts : ps ≡ inside ++ last ∷ rest
  pub balanced : all_open_after inside 0 ≡ Some 0
  pub closes : last.text.now ≡ codes "}"
  pub number : n ≡ length inside
