-- The pieces of a text: what is left out, and what a piece is.
use Rattle.std.specs.Prelude.{◌==◌}
use Rattle.std.proofs.Common.{◌≡◌, ℕ, ◌<◌, Bool, true, false, cond, not, List, [], ◌∷◌, ◌++◌, length, take, drop, Option, Some, None, refl, arith}
use Rattle.std.specs.Option.{option_and_then}
use Rattle.guest_syntax.specs.{Pieces.{IsWhole, IsStray}, Tokens.{TokenKind, is_space, blank}}
use Rattle.guest_syntax.{specs.reader.Scanner.kind_at, proofs.RefusalPlaces.begins_none}
use Rattle.guest_syntax.proofs.{ScannerProgress.kind_has_bytes, TokenSpelling.kind_reads}

-- ---- a piece

pub whole : (bytes : List ℕ) (k : TokenKind) (n : ℕ) → 0 < length bytes → kind_at bytes ≡ Some (k, n)
    → (0 < n) × IsWhole (take n bytes) (drop n bytes)
whole [] k n some e = absurd (omega (arith, some))
whole (b ∷ bs) k n some e =
    let r = kind_reads b bs (k, n) e in (kind_has_bytes b bs (k, n) e, (k, r.spelt, r.longest))

pub stray : (bytes : List ℕ) → 0 < length bytes → kind_at bytes ≡ None
    → IsStray (take 1 bytes) (drop 1 bytes)
stray [] some e = absurd (omega (arith, some))
stray (b ∷ bs) some e = (b, refl, begins_none b bs e)

-- ---- blanks and comments

blank_cases : (hash space : Bool) (x y : Option Bool) (f : Bool → Option Bool)
    → cond hash (option_and_then f x) (cond space (option_and_then f y) None)
    ≡ option_and_then f (cond hash x (cond space y None))
blank_cases true space x y f = refl
blank_cases false true x y f = refl
blank_cases false false x y f = refl

pub blank_append : (c : Bool) (gap rest : List ℕ)
    → blank c (gap ++ rest) ≡ option_and_then (λ d. blank d rest) (blank c gap)
blank_append c [] rest = refl
blank_append true (b ∷ gap) rest = blank_append (not (b == 10)) gap rest
blank_append false (b ∷ gap) rest = rw (blank_append true gap rest, blank_append false gap rest)
    (blank_cases (b == 35) (is_space b) (blank true gap) (blank false gap) (λ d. blank d rest))
