-- What `parse` may answer.
use Rattle.std.specs.Prelude.{◌≡◌, ◌<◌, ℕ, List, [], ◌∷◌, ◌++◌, length, Result, Ok, Err}
use Rattle.guest_syntax.specs.{Place.Follows, Tokens.{TokenKind, number, symbol, Spelling}}
use Rattle.guest_syntax.specs.{Tree.{Tree, tree_view}, declared.error.SyntaxError.SyntaxError}
use Rattle.guest_syntax.specs.declared.{limits.TheConstants.{TEXT_BYTES, REPEATS}, place.Pos.Pos}
use Rattle.guest_syntax.specs.declared.token.Symbol.TheVariants.{Open}
use Rattle.guest_syntax.specs.declared.error.SyntaxError.TheVariants as errors
use Rattle.guest_syntax.specs.declared.tree.Tree as code

-- the answer is this tree, or memory ran out
abbrev pub Answers : Result code.Tree SyntaxError → Tree → Type 0
Answers (Ok x) t = tree_view x ≡ t
Answers (Err e) t = e ≡ errors.OutOfMemory

-- ---- what is at the place p, among bytes of which the first is at another place

-- bytes that spell such a token
pub record IsTokenIn (at : Pos) (bytes : List ℕ) (k : TokenKind) (p : Pos) : Type 0 where
  pub text : List ℕ
  pub rest : List ℕ
  pub spelt : Spelling k text
  pub follows : Follows at bytes p (text ++ rest)

-- some token, or the end
pub data IsTokenOrEnd (at : Pos) (bytes : List ℕ) (p : Pos) : Type 0 where
  is_end : Follows at bytes p [] → IsTokenOrEnd at bytes p
  is_token : (k : TokenKind) → IsTokenIn at bytes k p → IsTokenOrEnd at bytes p

abbrev pub IsNotAsciiAt : Pos → List ℕ → Pos → Type 0
IsNotAsciiAt at bytes p = (b : ℕ) × (more : List ℕ) × (127 < b) × Follows at bytes p (b ∷ more)

-- these bytes begin with no token
abbrev pub BeginsNone : List ℕ → Type 0
BeginsNone bytes = (k : TokenKind) (text rest : List ℕ) → bytes ≡ text ++ rest → Spelling k text → ⊥

abbrev pub IsBadCharAt : Pos → List ℕ → Pos → Type 0
IsBadCharAt at bytes p =
    (b : ℕ) × (more : List ℕ) × (b < 128) × Follows at bytes p (b ∷ more) × BeginsNone (b ∷ more)

-- What a refusal says of its place. The least limit of a number is that of a `repeat`. That the
-- bytes are too many is said only where they are.
abbrev pub RefusalIn : Pos → List ℕ → SyntaxError → Type 0
RefusalIn at bytes errors.OutOfMemory = Unit {0}
RefusalIn at bytes (errors.NotAscii p) = IsNotAsciiAt at bytes p
RefusalIn at bytes (errors.BadChar p) = IsBadCharAt at bytes p
RefusalIn at bytes (errors.Expected p) = IsTokenOrEnd at bytes p
RefusalIn at bytes (errors.NumberTooBig p) = (n : ℕ) × (REPEATS < n)
    × IsTokenIn at bytes (number n) p
RefusalIn at bytes (errors.TooLong p) = TEXT_BYTES < length bytes
RefusalIn at bytes (errors.TooDeep p) = IsTokenIn at bytes (symbol Open) p
