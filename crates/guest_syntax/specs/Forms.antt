-- Forms: which tokens may come before which others.
use Rattle.std.specs.Prelude.{◌≡◌, ℕ, suc, ◌≤◌, ℤ, pos, ◌-ℤ◌, ◌⊎◌, List, [], ◌∷◌}
use Rattle.guest_syntax.specs.{Tokens.{TokenKind, name, keyword, number, symbol, Token}, Tree.Name}
use Rattle.guest_syntax.specs.declared.limits.TheConstants.{NUMBER}
use Rattle.guest_syntax.specs.declared.{place.Pos.Pos, token.Keyword.Keyword, token.Symbol.Symbol}
use Rattle.guest_syntax.specs.declared.token.Symbol.TheVariants as symbols

-- which tokens may come before which
abbrev pub Form : Type 1
Form = List Token → List Token → Type 0

infixr 5 ◌then◌
-- one form, and after it another
abbrev pub ◌then◌ : Form → Form → Form
(A then B) ts rest = (mid : List Token) × A ts mid × B mid rest

-- a token of this kind at this place
abbrev pub IsTokenAt : Pos → TokenKind → Form
IsTokenAt at k ts rest = ts ≡ record { kind = k; at = at } ∷ rest

-- a token of this kind
abbrev pub IsToken : TokenKind → Form
IsToken k ts rest = (at : Pos) × IsTokenAt at k ts rest

abbrev pub IsKeyword : Keyword → Form
IsKeyword w = IsToken (keyword w)

-- an operator or a mark
abbrev pub IsSymbol : Symbol → Form
IsSymbol s = IsToken (symbol s)

abbrev pub IsName : Name → Form
IsName n = IsTokenAt n.at (name n.text)

-- the first of these tokens is at this place
abbrev pub BeginsAt : Pos → List Token → Type 0
BeginsAt at [] = ⊥
BeginsAt at (t ∷ ts) = t.at ≡ at

-- a form whose first token is at this place
abbrev pub placed_at : Pos → Form → Form
placed_at at F ts rest = BeginsAt at ts × F ts rest

-- a number up to a limit
abbrev pub IsNumber : ℕ → ℕ → Form
IsNumber limit n ts rest = (n ≤ limit) × IsToken (number n) ts rest

abbrev pub IsEnd : Form
IsEnd = IsSymbol symbols.End

-- a number, or a number after a minus
abbrev pub IsLiteral : ℤ → Form
IsLiteral z ts rest =
    (n : ℕ) × (((z ≡ pos n) × IsNumber NUMBER n ts rest) ⊎
    ((z ≡ pos 0 -ℤ pos n) × (IsSymbol symbols.Minus then IsNumber NUMBER n) ts rest))

-- the forms of a list's elements, one after the other
abbrev pub each : {A : Type 0} → (A → Form) → List A → Form
each F [] ts rest = ts ≡ rest
each F (x ∷ xs) ts rest = (F x then each F xs) ts rest

-- a block, where there is room for it: its statements, with less room, in braces
abbrev pub in_braces : (ℕ → Form) → ℕ → Form
in_braces inner room ts rest = (less : ℕ) × (room ≡ suc less)
    × (IsSymbol symbols.Open then inner less then IsSymbol symbols.Close) ts rest
