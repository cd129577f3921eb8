-- Reading single tokens from the front of a list of tokens.
use Rattle.std.specs.Prelude.{ℕ, List, [], ◌∷◌, Bool, true, false, nat_le, nat_lt, Option, Some, None, if◌then◌else◌}
use Rattle.guest_syntax.specs.Tokens.{TokenKind, name, keyword, number, symbol, bad, Token}
use Rattle.guest_syntax.specs.{Tree.Name, declared.limits.TheConstants.REPEATS}
use Rattle.guest_syntax.specs.{declared.token.Symbol.Symbol, reader.Reads.Read}
use Rattle.guest_syntax.specs.reader.Scanner.{◌>>=◌}
use Rattle.guest_syntax.specs.contracts.token.SymbolPartialEq.TheImpl as symbol-eq

abbrev pub is_bad : TokenKind → Bool
is_bad (name s) = false
is_bad (keyword w) = false
is_bad (number n) = false
is_bad (symbol s) = false
is_bad bad = true

-- the next token, or the end
unfoldable pub next_at : List Token → Read (Option Token)
next_at [] = Some (None, [])
next_at (t ∷ ts) = if is_bad t.kind then None else Some (Some t, ts)

-- the next token, which must be there
unfoldable pub token_at : List Token → Read Token
token_at [] = None
token_at (t ∷ ts) = if is_bad t.kind then None else Some (t, ts)

abbrev pub is_symbol : Symbol → TokenKind → Bool
is_symbol wanted (name s) = false
is_symbol wanted (keyword w) = false
is_symbol wanted (number n) = false
is_symbol wanted (symbol s) = symbol-eq.eq-value.it s wanted
is_symbol wanted bad = false

-- the next token, which must be the wanted operator or mark
unfoldable pub symbol_from : Symbol → List Token → Option (List Token)
symbol_from wanted ts = do
  t ← token_at ts
  if is_symbol wanted t.0.kind then Some t.1 else None

abbrev pub name_in : Token → Option Name
name_in t = elim t.kind [
  | name s ↦ Some (record { text = s; at = t.at })
  | keyword w ↦ None
  | number n ↦ None
  | symbol s ↦ None
  | bad ↦ None
]

-- the next token, which must be a name
unfoldable pub name_from : List Token → Read Name
name_from ts = do
  t ← token_at ts
  n ← name_in t.0
  Some (n, t.1)

abbrev pub number_in : ℕ → TokenKind → Option ℕ
number_in limit (name s) = None
number_in limit (keyword w) = None
number_in limit (number n) = if nat_le n limit then Some n else None
number_in limit (symbol s) = None
number_in limit bad = None

-- the next token, which must be a number up to a limit
unfoldable pub number_from : ℕ → List Token → Read ℕ
number_from limit ts = do
  t ← token_at ts
  n ← number_in limit t.0.kind
  Some (n, t.1)

-- how often a `repeat` runs its block
unfoldable pub times_from : List Token → Read ℕ
times_from ts = do
  t ← token_at ts
  n ← number_in REPEATS t.0.kind
  if nat_lt 0 n then Some (n, t.1) else None
