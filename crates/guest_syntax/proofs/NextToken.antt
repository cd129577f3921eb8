-- The next token of a list is the first of the bytes.
use Rattle.std.specs.Prelude.{IfSome, IsSome}
use Rattle.std.proofs.Common.{◌≡◌, ℕ, ◌<◌, false, List, [], length, Option, Some, None, option_map, refl, arith}
use Rattle.guest_syntax.specs.{Answers.is_token, declared.error.SyntaxError.SyntaxError}
use Rattle.guest_syntax.specs.declared.{place.Pos.Pos, token.Token.Token, token.TokenKind.TokenKind}
use Rattle.guest_syntax.specs.{declared.tokens.Reader.Reader, reader.Gives.Fails}
use Rattle.guest_syntax.specs.reader.Reads.{IsPlaceOf, IsTokenOf}
use Rattle.guest_syntax.specs.reader.Scanner.{skipped, first, scan, tokens_from}
use Rattle.guest_syntax.specs.reader.SingleTokens.{is_bad, next_at}
use Rattle.guest_syntax.specs.reader.TokenViews.{kind_view, token_view}
use Rattle.guest_syntax.proofs.ScannerProgress.{tokens_first}
use Rattle.guest_syntax.specs.declared.error.SyntaxError.TheVariants as errors
use Rattle.guest_syntax.specs.declared.token.TokenKind.TheVariants as kinds

-- a fault stays a fault
pub fails_then : {A B : Type 0} (e : SyntaxError) (o : Option A) (p : Option B)
    → (o ≡ None → p ≡ None) → Fails e o → Fails e p
fails_then errors.OutOfMemory o p f h = tt
fails_then e o p f h = f h

good : (k : TokenKind) → is_bad (kind_view k) ≡ false
good (kinds.Name s) = refl
good (kinds.Keyword w) = refl
good (kinds.Number n) = refl
good (kinds.Symbol s) = refl

pub next_bad : (at : Pos) (bytes : List ℕ) → first at bytes ≡ None
    → next_at (tokens_from at bytes) ≡ None
unfolding next_at
next_bad at bytes e = rw (tokens_first at bytes None e) refl

none_left : (p : Pos) → tokens_from p [] ≡ []
unfolding tokens_from scan first skipped
none_left p = refl

pub next_end : (at p : Pos) (bytes rest : List ℕ) → first at bytes ≡ Some None → rest ≡ []
    → next_at (tokens_from at bytes) ≡ Some (None, tokens_from p rest)
unfolding next_at
next_end at p bytes rest e empty = rw (tokens_first at bytes (Some None) e, empty, none_left p) refl

pub next_good : (at : Pos) (bytes : List ℕ) (t : Token) (p : Pos) (rest : List ℕ)
    → first at bytes ≡ Some (Some (token_view t, p, rest))
    → next_at (tokens_from at bytes) ≡ Some (Some (token_view t), tokens_from p rest)
unfolding next_at
next_good at bytes t p rest e = rw (
  tokens_first at bytes (Some (Some (token_view t, p, rest))) e,
  good t.kind,
) refl

pub next_shorter : (at : Pos) (bytes : List ℕ) (t : Token) (p : Pos) (rest : List ℕ)
    → first at bytes ≡ Some (Some (token_view t, p, rest))
    → length (tokens_from p rest) < length (tokens_from at bytes)
next_shorter at bytes t p rest e = rw (tokens_first at bytes (Some (Some (token_view t, p, rest)))
    e) (omega arith)

-- what the bytes give is the next token of the list
pub next_gives : (at p : Pos) (bytes rest : List ℕ) (o : Option Token)
    → first at bytes ≡ Some (option_map (λ t. (token_view t, p, rest)) o) → (o ≡ None → rest ≡ [])
    → next_at (tokens_from at bytes) ≡ Some (option_map token_view o, tokens_from p rest)
next_gives at p bytes rest None g e = next_end at p bytes rest g (e refl)
next_gives at p bytes rest (Some t) g e = next_good at bytes t p rest g

pub next_fails : (at : Pos) (bytes : List ℕ) (e : SyntaxError) → Fails e (first at bytes)
    → Fails e (next_at (tokens_from at bytes))
next_fails at bytes e g =
    fails_then e (first at bytes) (next_at (tokens_from at bytes)) (next_bad at bytes) g

pub next_takes_one : (at p : Pos) (bytes rest : List ℕ) (o : Option Token)
    → first at bytes ≡ Some (option_map (λ t. (token_view t, p, rest)) o) → IsSome o
    → length (tokens_from p rest) < length (tokens_from at bytes)
next_takes_one at p bytes rest None g = λ some. absurd cc
next_takes_one at p bytes rest (Some t) g = λ some. next_shorter at bytes t p rest g

pub next_place : (r : Reader) (o : Option Token) → IfSome o (λ t. IsTokenOf r (token_view t))
    → IfSome o (λ t. IsPlaceOf r t.at)
next_place r None h = tt
next_place r (Some t) h = is_token (kind_view t.kind) h
