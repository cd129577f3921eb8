-- Places of a text: what follows what follows it, and what a cursor knows of its place.
use Rattle.std.proofs.Common.{◌≡◌, ℕ, ◌+◌, ◌-◌, ◌<◌, List, [], ◌∷◌, ◌++◌, length, take, drop, refl, sym, ap, subst, ◌∙◌, append_assoc, arith, length-append, get_or, add-one, drop-cons}
use Rattle.std.proofs.lemmas.List.{take_at, drop_at, take-append-drop}
use Rattle.guest_syntax.specs.Answers.{IsTokenIn, IsTokenOrEnd, is_end, is_token, RefusalIn}
use Rattle.guest_syntax.specs.Place.{start, past, after, Follows}
use Rattle.guest_syntax.specs.{Tokens.{TokenKind, number, symbol}, declared.cursor.Cursor.Cursor}
use Rattle.guest_syntax.specs.declared.{error.SyntaxError.SyntaxError, place.Pos.Pos}
use Rattle.guest_syntax.specs.declared.token.Symbol.TheVariants.{Open}
use Rattle.guest_syntax.specs.declared.error.SyntaxError.TheVariants as errors

after_append : (a b : List ℕ) (at : Pos) → after at (a ++ b) ≡ after (after at a) b
unfolding after
after_append [] b at = refl
after_append (x ∷ a) b at = after_append a b (past at x)

pub nothing_follows : (bytes : List ℕ) (at : Pos) → Follows at bytes at bytes
unfolding after
nothing_follows bytes at = record { front = []; parts = refl; place = refl }

-- one byte more
pub byte_follows : (s : List ℕ) (i : ℕ) (at : Pos) → i < length s
    → Follows at (drop i s) (past at (get_or s i 0)) (drop (i + 1) s)
unfolding after
byte_follows s i at lt = record {
  front = get_or s i 0 ∷ [];
  parts = rw (add-one, drop-cons s i 0) refl;
  place = refl;
}

pub follows_then : {p q r : Pos} {a b c : List ℕ} → Follows p a q b → Follows q b r c
    → Follows p a r c
follows_then {p = p} {c = c} f g = record {
  front = f.front ++ g.front;
  parts = f.parts ∙ ap (λ x. f.front ++ x) g.parts ∙ sym (append_assoc f.front g.front c);
  place = g.place ∙ ap (λ x. after x g.front) f.place ∙ sym (after_append f.front g.front p);
}

pub token_then : {p q r : Pos} {a b : List ℕ} (k : TokenKind) → Follows p a q b → IsTokenIn q b k r
    → IsTokenIn p a k r
token_then k f g = record {
  text = g.text;
  rest = g.rest;
  spelt = g.spelt;
  follows = follows_then f g.follows;
}

token_or_end_then : {p q r : Pos} {a b : List ℕ} → Follows p a q b → IsTokenOrEnd q b r
    → IsTokenOrEnd p a r
token_or_end_then f (is_end g) = is_end (follows_then f g)
token_or_end_then f (is_token k g) = is_token k (token_then k f g)

-- a refusal of what follows is one of the whole
pub refusal_then : {p q : Pos} {a b : List ℕ} (e : SyntaxError) → Follows p a q b → RefusalIn q b e
    → RefusalIn p a e
refusal_then errors.OutOfMemory f h = tt
refusal_then (errors.NotAscii at) f (b, more, big, g) = (b, more, big, follows_then f g)
refusal_then (errors.BadChar at) f (b, more, small, g, none) =
    (b, more, small, follows_then f g, none)
refusal_then (errors.Expected at) f h = token_or_end_then f h
refusal_then (errors.NumberTooBig at) f (n, big, g) = (n, big, token_then (number n) f g)
refusal_then {b = b} (errors.TooLong at) f h =
    omega (arith, h, ap length f.parts, length-append f.front b)
refusal_then (errors.TooDeep at) f h = token_then (symbol Open) f h

-- ---- what a cursor keeps

pub left_follows : (text rest : List ℕ) (at : Pos) → rest ≡ drop (length text - length rest) text
    → at ≡ after start (take (length text - length rest) text) → Follows start text at rest
left_follows text rest at left place =
    let n = length text - length rest in
    record {
      front = take n text;
      parts = sym (take-append-drop n text) ∙ ap (λ r. take n text ++ r) (sym left);
      place = place;
    }

front_length : {text rest : List ℕ} {at : Pos} (f : Follows start text at rest)
    → length f.front ≡ length text - length rest
front_length {rest = rest} f = omega (arith, ap length f.parts, length-append f.front rest)

pub follows_left : (text rest : List ℕ) (at : Pos) → Follows start text at rest
    → rest ≡ drop (length text - length rest) text
follows_left text rest at f =
    sym (drop_at f.front rest (length text - length rest) (front_length f)) ∙
    ap (drop (length text - length rest)) (sym f.parts)

pub follows_after : (text rest : List ℕ) (at : Pos) → Follows start text at rest
    → at ≡ after start (take (length text - length rest) text)
follows_after text rest at f =
    f.place ∙ ap (after start) (sym (take_at f.front rest (length text - length rest)
    (front_length f)) ∙ ap (take (length text - length rest)) (sym f.parts))

pub cursor_follows : (c : Cursor) → Follows start c.text.now c.at c.rest.now
cursor_follows c = left_follows c.text.now c.rest.now c.at c.left c.place

-- a cursor in the same text
pub follows_in_same : (c d : Cursor) → c.text.now ≡ d.text.now
    → Follows start d.text.now c.at c.rest.now
follows_in_same c d same = subst (λ text. Follows start text c.at c.rest.now) same
    (cursor_follows c)

pub split_follows : (bytes front rest : List ℕ) (n : ℕ) (at later : Pos) → front ≡ take n bytes
    → rest ≡ drop n bytes
    → later ≡ after at front → Follows at bytes later rest
split_follows bytes front rest n at later is left place = record {
  front = front;
  parts = sym (take-append-drop n bytes) ∙ ap (λ x. x ++ drop n bytes) (sym is) ∙
      ap (λ x. front ++ x) (sym left);
  place = place;
}
