-- What tokens are, and how a text spells them.
use Rattle.std.specs.Prelude.{◌≡◌, ◌≢◌, ℕ, ◌+◌, ◌-◌, ◌*◌, ◌^◌, ◌<◌, min, List, [], ◌∷◌, ◌++◌, length, Bool, true, false, not, ◌&&◌, ◌||◌, ◌==◌, nat_le, IsTrue, IsSome, Option, Some, None, if◌then◌else◌, codes, fold}
use Rattle.std.specs.List.{list_all}
use Rattle.guest_syntax.specs.{Place.after, declared.place.Pos.Pos, declared.token.Keyword.Keyword}
use Rattle.guest_syntax.specs.declared.token.Symbol.{Symbol}
use Rattle.guest_syntax.specs.declared.token.Keyword.TheVariants as keywords
use Rattle.guest_syntax.specs.declared.token.Symbol.TheVariants as symbols

-- `bad` is where no token begins, and nothing spells it
pub data TokenKind : Type 0 where
  name : List ℕ → TokenKind
  keyword : Keyword → TokenKind
  number : ℕ → TokenKind
  symbol : Symbol → TokenKind
  bad : TokenKind

pub record Token : Type 0 where
  pub kind : TokenKind
  pub at : Pos

-- how a keyword is written
abbrev pub keyword_text : Keyword → List ℕ
keyword_text keywords.Var = codes "var"
keyword_text keywords.Mutex = codes "mutex"
keyword_text keywords.Cond = codes "cond"
keyword_text keywords.Sem = codes "sem"
keyword_text keywords.Thread = codes "thread"
keyword_text keywords.Load = codes "load"
keyword_text keywords.Store = codes "store"
keyword_text keywords.Add = codes "add"
keyword_text keywords.Cas = codes "cas"
keyword_text keywords.Lock = codes "lock"
keyword_text keywords.Unlock = codes "unlock"
keyword_text keywords.Wait = codes "wait"
keyword_text keywords.Signal = codes "signal"
keyword_text keywords.Broadcast = codes "broadcast"
keyword_text keywords.Acquire = codes "acquire"
keyword_text keywords.Release = codes "release"
keyword_text keywords.Set = codes "set"
keyword_text keywords.If = codes "if"
keyword_text keywords.Else = codes "else"
keyword_text keywords.Repeat = codes "repeat"
keyword_text keywords.Leave = codes "leave"
keyword_text keywords.Assert = codes "assert"

-- how an operator or a mark is written
abbrev pub symbol_text : Symbol → List ℕ
symbol_text symbols.Equal = codes "=="
symbol_text symbols.NotEqual = codes "!="
symbol_text symbols.LessOrEqual = codes "<="
symbol_text symbols.GreaterOrEqual = codes ">="
symbol_text symbols.Less = codes "<"
symbol_text symbols.Greater = codes ">"
symbol_text symbols.Plus = codes "+"
symbol_text symbols.Minus = codes "-"
symbol_text symbols.Times = codes "*"
symbol_text symbols.Assign = codes "="
symbol_text symbols.Open = codes "{"
symbol_text symbols.Close = codes "}"
symbol_text symbols.End = codes ";"

abbrev pub is_digit : ℕ → Bool
is_digit b = nat_le 48 b && nat_le b 57

abbrev pub is_letter : ℕ → Bool
is_letter b = (nat_le 65 b && nat_le b 90) || (nat_le 97 b && nat_le b 122) || (b == 95)

abbrev pub is_name_byte : ℕ → Bool
is_name_byte b = is_letter b || is_digit b

abbrev pub is_space : ℕ → Bool
is_space b = (b == 32) || (b == 9) || (b == 10) || (b == 13)

abbrev pub IsIdentifier : List ℕ → Type 0
IsIdentifier [] = ⊥
IsIdentifier (b ∷ bs) = IsTrue (is_letter b) × IsTrue (list_all is_name_byte bs)

-- a decimal number
abbrev pub value : List ℕ → ℕ
value bs = fold (λ n b. 10 * n + (b - 48)) 0 bs

-- these bytes spell the token; numbers from 2^64 - 1 on all count as 2^64 - 1
abbrev pub Spelling : TokenKind → List ℕ → Type 0
Spelling (name s) bs = (bs ≡ s) × IsIdentifier s × ((w : Keyword) → s ≢ keyword_text w)
Spelling (keyword w) bs = bs ≡ keyword_text w
Spelling (number n) bs = (0 < length bs) × IsTrue (list_all is_digit bs)
    × (n ≡ min (value bs) (2 ^ 64 - 1))
Spelling (symbol s) bs = bs ≡ symbol_text s
Spelling bad bs = ⊥

-- Whether these bytes end in a comment, where they begin in one or not. None where a byte is
-- neither blank nor in a comment.
abbrev pub blank : Bool → List ℕ → Option Bool
blank comment [] = Some comment
blank true (b ∷ bs) = blank (not (b == 10)) bs
blank false (b ∷ bs) = if b == 35 then blank true bs else
    (if is_space b then blank false bs else None)

-- no token begins with these bytes and goes on with the first of the rest
abbrev pub IsLongest : List ℕ → List ℕ → Type 0
IsLongest text rest = (b : ℕ) (more : List ℕ) → rest ≡ b ∷ more → (k : TokenKind)
    → Spelling k (text ++ b ∷ []) → ⊥

-- one token, what comes before it and what comes after it
pub record Begins (at : Pos) (bytes : List ℕ) (t : Token) (rest : List ℕ) : Type 0 where
  pub gap : List ℕ
  pub text : List ℕ
  pub parts : bytes ≡ gap ++ (text ++ rest)
  pub is_gap : blank false gap ≡ Some false
  pub place : t.at ≡ after at gap
  pub spelt : Spelling t.kind text
  pub longest : IsLongest text rest
  pub next : Pos
  pub next_is : next ≡ after t.at text

-- the bytes, the first of which is at this place, spell these tokens
abbrev pub Tokens : Pos → List ℕ → List Token → Type 0
Tokens at bytes [] = IsSome (blank false bytes)
Tokens at bytes (t ∷ ts) = (rest : List ℕ) × (b : Begins at bytes t rest) × Tokens b.next rest ts
