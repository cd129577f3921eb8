-- What is at the place of a refusal.
use Rattle.std.specs.Prelude.{nat_eq, ◌==◌}
use Rattle.std.proofs.Common.{◌≡◌, ℕ, zero, suc, ◌<◌, Bool, true, false, List, [], ◌∷◌, ◌++◌, length, take, drop, Option, Some, None, option_map, refl, sym, ap, subst, ◌∙◌, arith}
use Rattle.std.specs.List.{list_all, starts_with, AllByRecursion}
use Rattle.std.proofs.lemmas.{Bool.Decides.Decides-eqb, List.{take_at, take-append-drop}}
use Rattle.std.proofs.lemmas.Slice.Eq.{slice_eq-Decides}
use Rattle.guest_syntax.specs.{Answers.{IsTokenIn, BeginsNone, IsBadCharAt}, Place.Follows}
use Rattle.guest_syntax.specs.Tokens.{TokenKind, name, keyword, number, symbol, bad, IsIdentifier, symbol_text, is_letter, is_digit}
use Rattle.guest_syntax.specs.declared.{place.Pos.Pos, token.Symbol.Symbol}
use Rattle.guest_syntax.specs.declared.token.TheConstants.{SYMBOLS}
use Rattle.guest_syntax.specs.reader.Scanner.{skipped, symbol_at, kind_by, kind_at}
use Rattle.guest_syntax.proofs.{BlankRuns.{skip_takes, stops_ascii}, ByteClasses.and_parts}
use Rattle.guest_syntax.proofs.TokenSpelling.{kind_reads, keyword_is_identifier, find_none, false_true}
use Rattle.guest_syntax.specs.declared.token.Symbol.TheVariants as symbols

pub some_bytes : (n : ℕ) → false ≡ (n == 0) → 0 < n
some_bytes zero e = absurd cc
some_bytes (suc n) e = omega arith

-- ---- a token

pub kind_is_in : (at p : Pos) (bytes rest : List ℕ) (k : TokenKind) (n : ℕ) → Follows at bytes p rest
    → 0 < length rest
    → kind_at rest ≡ Some (k, n) → IsTokenIn at bytes k p
kind_is_in at p bytes [] k n f some e = absurd (omega (arith, some))
kind_is_in at p bytes (b ∷ bs) k n f some e = record {
  text = take n (b ∷ bs);
  rest = drop n (b ∷ bs);
  spelt = (kind_reads b bs (k, n) e).spelt;
  follows = subst (Follows at bytes p) (sym (take-append-drop n (b ∷ bs))) f;
}

-- ---- no token

each_symbol : (P : Symbol → Type 0) → AllByRecursion P SYMBOLS → (s : Symbol) → P s
each_symbol P h symbols.Equal = h.0
each_symbol P h symbols.NotEqual = h.1.0
each_symbol P h symbols.LessOrEqual = h.1.1.0
each_symbol P h symbols.GreaterOrEqual = h.1.1.1.0
each_symbol P h symbols.Less = h.1.1.1.1.0
each_symbol P h symbols.Greater = h.1.1.1.1.1.0
each_symbol P h symbols.Plus = h.1.1.1.1.1.1.0
each_symbol P h symbols.Minus = h.1.1.1.1.1.1.1.0
each_symbol P h symbols.Times = h.1.1.1.1.1.1.1.1.0
each_symbol P h symbols.Assign = h.1.1.1.1.1.1.1.1.1.0
each_symbol P h symbols.Open = h.1.1.1.1.1.1.1.1.1.1.0
each_symbol P h symbols.Close = h.1.1.1.1.1.1.1.1.1.1.1.0
each_symbol P h symbols.End = h.1.1.1.1.1.1.1.1.1.1.1.1.0

map_none : {A B : Type 0} (f : A → B) (o : Option A) → option_map f o ≡ None → o ≡ None
map_none f None e = refl
map_none f (Some x) e = absurd cc

none_parts : (l d : Bool) (bytes : List ℕ) → kind_by l d bytes ≡ None → (l ≡ false) × (d ≡ false)
    × (symbol_at bytes ≡ None)
none_parts true d bytes e = absurd cc
none_parts false true bytes e = absurd cc
none_parts false false bytes e = (refl, refl, map_none _ (symbol_at bytes) e)

no_identifier : (b : ℕ) (bs text rest : List ℕ) → is_letter b ≡ false → b ∷ bs ≡ text ++ rest
    → IsIdentifier text → ⊥
no_identifier b bs [] rest l e h = h
no_identifier b bs (c ∷ t) rest l e h = let is : b ≡ c =
    cc in false_true (subst (λ c. is_letter c ≡ false) is l) h.0

no_digits : (b : ℕ) (bs text rest : List ℕ) → is_digit b ≡ false → b ∷ bs ≡ text ++ rest
    → 0 < length text → list_all is_digit text ≡ true → ⊥
no_digits b bs [] rest d e some h = absurd (omega (arith, some))
no_digits b bs (c ∷ t) rest d e some h =
    let is : b ≡ c = cc in
    false_true (subst (λ c. is_digit c ≡ false) is d)
    (and_parts (is_digit c) (list_all is_digit t) h).0

no_symbol : (bytes rest : List ℕ) (s : Symbol) → symbol_at bytes ≡ None
    → bytes ≡ symbol_text s ++ rest → ⊥
no_symbol bytes rest s none e =
    let other = each_symbol (λ s. starts_with nat_eq bytes (symbol_text s) ≡ false)
    (find_none (λ s. starts_with nat_eq bytes (symbol_text s)) SYMBOLS none) s in
    let n = length (symbol_text s) in
    let same : symbol_text s ≡ take n bytes =
    sym (ap (take n) e ∙ take_at (symbol_text s) rest n refl) in
    false_true other ((slice_eq-Decides Decides-eqb (symbol_text s) (take n bytes) _ refl).1 same)

pub begins_none : (b : ℕ) (bs : List ℕ) → kind_at (b ∷ bs) ≡ None → BeginsNone (b ∷ bs)
unfolding kind_at
begins_none b bs none (name s) text rest e h =
    no_identifier b bs text rest (none_parts (is_letter b) (is_digit b) (b ∷ bs) none).0 e
    (subst IsIdentifier (sym h.0) h.1)
begins_none b bs none (keyword w) text rest e h =
    no_identifier b bs text rest (none_parts (is_letter b) (is_digit b) (b ∷ bs) none).0 e
    (subst IsIdentifier (sym h) (keyword_is_identifier w))
begins_none b bs none (number n) text rest e h =
    no_digits b bs text rest (none_parts (is_letter b) (is_digit b) (b ∷ bs) none).1 e h.0 h.1
begins_none b bs none (symbol s) text rest e h =
    no_symbol (b ∷ bs) rest s (none_parts (is_letter b) (is_digit b) (b ∷ bs) none).2
    (e ∙ ap (λ t. t ++ rest) h)
begins_none b bs none bad text rest e h = h

pub bad_char_is_in : (at before p : Pos) (bytes left rest : List ℕ)
    → skipped false before left ≡ Some (p, rest) → Follows at bytes p rest
    → 0 < length rest → kind_at rest ≡ None → IsBadCharAt at bytes p
bad_char_is_in at before p bytes left [] skip f some none = absurd (omega (arith, some))
bad_char_is_in at before p bytes left (b ∷ bs) skip f some none = (
  b,
  bs,
  stops_ascii b (skip_takes left false before (p, b ∷ bs) skip).stop.1,
  f,
  begins_none b bs none,
)
