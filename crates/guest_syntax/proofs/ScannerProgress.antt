-- The scanner goes on.
use Rattle.std.proofs.Common.{◌≡◌, ℕ, zero, suc, ◌<◌, ◌≤◌, Bool, true, false, ◌||◌, List, [], ◌∷◌, length, Option, Some, None, refl, ap, ◌∙◌, arith, length-drop}
use Rattle.std.specs.List.{prefix_len}
use Rattle.guest_syntax.specs.Place.{past}
use Rattle.guest_syntax.specs.Tokens.{TokenKind, symbol, Token, is_letter, is_digit, is_name_byte, symbol_text}
use Rattle.guest_syntax.specs.declared.{place.Pos.Pos, token.Symbol.Symbol}
use Rattle.guest_syntax.specs.reader.BlankBytes.{Step, Passed, Stops, NotAscii, gap_step}
use Rattle.guest_syntax.specs.reader.Scanner.{skip_by, skipped, symbol_at, kind_by, kind_at, first_from, first, scan_with, scan, tokens_from}
use Rattle.guest_syntax.proofs.OptionCases.{bind_some, map_some, some_is}
use Rattle.guest_syntax.specs.declared.token.Symbol.TheVariants as symbols

skip_by_len : (b : ℕ) (bs : List ℕ) (at : Pos) (x : Pos × List ℕ) (s : Step)
    (more : Bool → Option (Pos × List ℕ))
    → ((d : Bool) → more d ≡ Some x → length x.1 ≤ length bs) → skip_by s more at (b ∷ bs) ≡ Some x
    → length x.1 ≤ length (b ∷ bs)
skip_by_len b bs at x (Passed d) more ih e = omega (arith, ih d e)
skip_by_len b bs at x Stops more ih e = omega
    (arith, ap (λ (y : Pos × List ℕ). length y.1) (some_is (at, b ∷ bs) x e))
skip_by_len b bs at x NotAscii more ih e = absurd cc

-- skipping leaves no more than there was
pub skipped_len : (bytes : List ℕ) (c : Bool) (at : Pos) (x : Pos × List ℕ)
    → skipped c at bytes ≡ Some x → length x.1 ≤ length bytes
unfolding skipped
skipped_len [] c at x e = omega (
  arith,
  ap (λ (y : Pos × List ℕ). length y.1)
      (some_is (at, []) x e),
)
skipped_len (b ∷ bs) c at x e = skip_by_len b bs at x (gap_step c b)
    (λ d. skipped d (past at b) bs) (λ d h. skipped_len bs d (past at b) x h) e

pub symbol_has_bytes : (s : Symbol) → 0 < length (symbol_text s)
symbol_has_bytes symbols.Equal = omega arith
symbol_has_bytes s = omega arith

letter_is_name : (b : Bool) (bs : Bool) → b ≡ true → (b || bs) ≡ true
letter_is_name true bs e = refl
letter_is_name false bs e = absurd cc

prefix_has : (p : ℕ → Bool) (b : ℕ) (bs : List ℕ) → p b ≡ true → 0 < prefix_len p (b ∷ bs)
prefix_has p b bs e = rw e (omega arith)

kind_has_bytes_by : (b : ℕ) (bs : List ℕ) (l d : Bool) → is_letter b ≡ l → is_digit b ≡ d
    → (x : TokenKind × ℕ) → kind_by l d (b ∷ bs) ≡ Some x → 0 < x.1
kind_has_bytes_by b bs true d il id x e =
    rw (← ap (λ (y : TokenKind × ℕ). y.1) (some_is _ x e))
    (prefix_has is_name_byte b bs (letter_is_name (is_letter b) (is_digit b) il))
kind_has_bytes_by b bs false true il id x e =
    rw (← ap (λ (y : TokenKind × ℕ). y.1) (some_is _ x e)) (prefix_has is_digit b bs id)
kind_has_bytes_by b bs false false il id x e =
    let m = map_some (λ s. (symbol s, length (symbol_text s))) (symbol_at (b ∷ bs)) x e in
    rw (← ap (λ (y : TokenKind × ℕ). y.1) m.2) (symbol_has_bytes m.0)

pub kind_has_bytes : (b : ℕ) (bs : List ℕ) (x : TokenKind × ℕ) → kind_at (b ∷ bs) ≡ Some x → 0 < x.1
unfolding kind_at
kind_has_bytes b bs x e = kind_has_bytes_by b bs (is_letter b) (is_digit b) refl refl x e

first_from_len : (at : Pos) (bytes : List ℕ) (x : Token × Pos × List ℕ)
    → first_from at bytes ≡ Some (Some x) → length x.2 < length bytes
first_from_len at [] x e = absurd cc
first_from_len at (b ∷ bs) x e =
    let k = bind_some (kind_at (b ∷ bs)) _ _ e in
    let is = some_is _ x (some_is _ (Some x) k.2) in
    omega (
      arith,
      length-drop k.0.1 (b ∷ bs),
      kind_has_bytes b bs k.0 k.1,
      ap (λ (y : Token × Pos × List ℕ). length y.2) is,
    )

pub first_len : (at : Pos) (bytes : List ℕ) (x : Token × Pos × List ℕ)
    → first at bytes ≡ Some (Some x) → length x.2 < length bytes
unfolding first
first_len at bytes x e =
    let s = bind_some (skipped false at bytes) _ _ e in
    omega (arith, skipped_len bytes false at s.0 s.1, first_from_len s.0.0 s.0.1 x s.2)

scan_with_same : (f g : Pos → List ℕ → List Token) (at : Pos) (bytes : List ℕ)
    (o : Option (Option (Token × Pos × List ℕ))) → first at bytes ≡ o
    → ((p : Pos) (bs : List ℕ) → length bs < length bytes → f p bs ≡ g p bs)
    → scan_with at o f ≡ scan_with at o g
scan_with_same f g at bytes None e same = refl
scan_with_same f g at bytes (Some None) e same = refl
scan_with_same f g at bytes (Some (Some x)) e same =
    ap (λ ts. x.0 ∷ ts) (same x.1 x.2 (first_len at bytes x e))

scan_same : (n m : ℕ) (at : Pos) (bytes : List ℕ) → length bytes < n → length bytes < m
    → scan n at bytes ≡ scan m at bytes
unfolding scan
scan_same zero m at bytes h k = absurd (omega arith)
scan_same (suc n) zero at bytes h k = absurd (omega arith)
scan_same (suc n) (suc m) at bytes h k =
    scan_with_same (λ p bs. scan n p bs) (λ p bs. scan m p bs) at bytes (first at bytes) refl
    (λ p bs lt. scan_same n m p bs (omega arith) (omega arith))

-- the tokens are the first and those after it
pub tokens_first : (at : Pos) (bytes : List ℕ) (o : Option (Option (Token × Pos × List ℕ)))
    → first at bytes ≡ o → tokens_from at bytes ≡ scan_with at o tokens_from
unfolding scan tokens_from
tokens_first at bytes o e =
    scan_with_same (λ p bs. scan (length bytes) p bs) tokens_from at bytes (first at bytes) refl
    (λ p bs lt. scan_same (length bytes) (suc (length bs)) p bs lt (omega arith))
    ∙ ap (λ o. scan_with at o tokens_from) e
