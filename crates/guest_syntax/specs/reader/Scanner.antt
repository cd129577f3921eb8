-- Tokens one after the other, from the front.
use Rattle.std.specs.Prelude.{ℕ, zero, suc, ◌+◌, ◌^◌, min, List, [], ◌∷◌, length, take, drop, Bool, true, false, Option, Some, None, option_map, find, nat_eq, slice_index, fold, ◌*◌, ◌-◌}
use Rattle.std.specs.{List.{prefix_len, starts_with}, Option.{option_and_then, option_map_or}}
use Rattle.std.specs.Str.{bytes_eq}
use Rattle.guest_syntax.specs.Place.{past, after}
use Rattle.guest_syntax.specs.Tokens.{TokenKind, name, keyword, number, symbol, bad, Token, keyword_text, symbol_text, is_digit, is_letter, is_name_byte}
use Rattle.guest_syntax.specs.declared.{place.Pos.Pos, token.Symbol.Symbol}
use Rattle.guest_syntax.specs.declared.token.TheConstants.{KEYWORDS, SYMBOLS}
use Rattle.guest_syntax.specs.reader.BlankBytes.{Step, Passed, Stops, NotAscii, gap_step}

infixl 10 ◌>>=◌
abbrev pub ◌>>=◌ : {A B : Type 0} → Option A → (A → Option B) → Option B
o >>= f = option_and_then f o

abbrev pub skip_by : Step → (Bool → Option (Pos × List ℕ)) → Pos → List ℕ → Option (Pos × List ℕ)
skip_by (Passed comment) more at bytes = more comment
skip_by Stops more at bytes = Some (at, bytes)
skip_by NotAscii more at bytes = None

-- what comes after spaces and comments, where no byte of them is above 127
unfoldable pub skipped : Bool → Pos → List ℕ → Option (Pos × List ℕ)
skipped comment at [] = Some (at, [])
skipped comment at (b ∷ bs) = skip_by (gap_step comment b) (λ c. skipped c (past at b) bs) at
    (b ∷ bs)

abbrev pub name_or_keyword : List ℕ → TokenKind
name_or_keyword text = option_map_or keyword (find (λ w. bytes_eq (keyword_text w) text) KEYWORDS)
    (name text)

-- the value of digits, cut at 2 ^ 64 - 1
abbrev pub capped : List ℕ → ℕ
capped digits = fold (λ n b. min (min (n * 10) (2 ^ 64 - 1) + (b - 48)) (2 ^ 64 - 1)) 0 digits

abbrev pub symbol_at : List ℕ → Option Symbol
symbol_at text = find (λ s. starts_with nat_eq text (symbol_text s)) SYMBOLS

-- the token that begins with the first byte, and its length
abbrev pub kind_by : Bool → Bool → List ℕ → Option (TokenKind × ℕ)
kind_by true digit bytes = Some (
  name_or_keyword (take (prefix_len is_name_byte bytes) bytes),
  prefix_len is_name_byte bytes,
)
kind_by false true bytes = Some (
  number (capped (take (prefix_len is_digit bytes) bytes)),
  prefix_len is_digit bytes,
)
kind_by false false bytes = option_map (λ s. (symbol s, length (symbol_text s))) (symbol_at bytes)

unfoldable pub kind_at : List ℕ → Option (TokenKind × ℕ)
kind_at bytes = kind_by (is_letter (slice_index bytes 0)) (is_digit (slice_index bytes 0)) bytes

abbrev pub first_from : Pos → List ℕ → Option (Option (Token × Pos × List ℕ))
first_from at [] = Some None
first_from at (b ∷ bs) = do
  k ← kind_at (b ∷ bs)
  Some (Some (record { kind = k.0; at = at }, after at (take k.1 (b ∷ bs)), drop k.1 (b ∷ bs)))

-- the first token, and what comes after it
unfoldable pub first : Pos → List ℕ → Option (Option (Token × Pos × List ℕ))
first at bytes = do
  s ← skipped false at bytes
  first_from s.0 s.1

abbrev pub scan_with : Pos → Option (Option (Token × Pos × List ℕ)) → (Pos → List ℕ → List Token)
    → List Token
scan_with at None more = record { kind = bad; at = at } ∷ []
scan_with at (Some None) more = []
scan_with at (Some (Some x)) more = x.0 ∷ more x.1 x.2

unfoldable pub scan : ℕ → Pos → List ℕ → List Token
scan zero at bytes = []
scan (suc n) at bytes = scan_with at (first at bytes) (λ p bs. scan n p bs)

-- the tokens of these bytes, and `bad` where one can't be read
unfoldable pub tokens_from : Pos → List ℕ → List Token
unfolding scan
tokens_from at bytes = scan (suc (length bytes)) at bytes
