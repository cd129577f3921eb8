-- The tokens of a text are one after the other.
use Rattle.std.specs.Prelude.{◌==◌}
use Rattle.std.proofs.Common.{◌≡◌, ℕ, ◌+◌, ◌<◌, Bool, true, false, ◌⊎◌, inl, inr, List, [], ◌∷◌, ◌++◌, length, if◌then◌else◌, refl, sym, ap, subst, arith}
use Rattle.guest_syntax.specs.Place.{past, after, Before}
use Rattle.guest_syntax.specs.Tokens.{TokenKind, name, keyword, number, symbol, bad, Token, keyword_text, Spelling, Tokens}
use Rattle.guest_syntax.specs.declared.{place.Pos.Pos, token.Keyword.Keyword}
use Rattle.guest_syntax.proofs.{NoBadTokens.Adds, ScannerProgress.symbol_has_bytes}
use Rattle.guest_syntax.specs.declared.token.Keyword.TheVariants as keywords

-- ---- places

-- the first place is not after the second
abbrev pub UpTo : Pos → Pos → Type 0
UpTo p q = (p ≡ q) ⊎ Before p q

before_trans : {p q r : Pos} → Before p q → Before q r → Before p r
before_trans (inl a) (inl b) = inl (omega (arith, a, b))
before_trans (inl a) (inr b) = inl (omega (arith, a, b.0))
before_trans (inr a) (inl b) = inl (omega (arith, a.0, b))
before_trans (inr a) (inr b) = inr (omega (arith, a.0, b.0), omega (arith, a.1, b.1))

before_up_to : {p q r : Pos} → Before p q → UpTo q r → Before p r
before_up_to {p = p} h (inl e) = subst (Before p) e h
before_up_to h (inr k) = before_trans h k

up_to_before : {p q r : Pos} → UpTo p q → Before q r → Before p r
up_to_before {r = r} (inl e) h = subst (λ p. Before p r) (sym e) h
up_to_before (inr k) h = before_trans k h

past_by : (p : Pos) (feed : Bool)
    → Before p (if feed then record { line = p.line + 1; col = 1 } else
    record { line = p.line; col = p.col + 1 })
past_by p true = inl (omega arith)
past_by p false = inr (refl, omega arith)

before_past : (p : Pos) (b : ℕ) → Before p (past p b)
unfolding past
before_past p b = past_by p (b == 10)

up_to_after : (p : Pos) (bs : List ℕ) → UpTo p (after p bs)
unfolding after
up_to_after p [] = inl refl
up_to_after p (b ∷ bs) = inr (before_up_to (before_past p b) (up_to_after (past p b) bs))

before_after : (p : Pos) (bs : List ℕ) → 0 < length bs → Before p (after p bs)
unfolding after
before_after p [] lt = absurd (omega arith)
before_after p (b ∷ bs) lt = before_up_to (before_past p b) (up_to_after (past p b) bs)

-- ---- tokens

keyword_has_bytes : (w : Keyword) → 0 < length (keyword_text w)
keyword_has_bytes keywords.Var = omega arith
keyword_has_bytes _ = omega arith

has_bytes : (k : TokenKind) (bs : List ℕ) → Spelling k bs → 0 < length bs
has_bytes (name []) bs h = absurd h.1
has_bytes (name (b ∷ s)) bs h = omega (arith, ap length h.0)
has_bytes (keyword w) bs h = omega (arith, ap length h, keyword_has_bytes w)
has_bytes (number n) bs h = h.0
has_bytes (symbol s) bs h = omega (arith, ap length h, symbol_has_bytes s)
has_bytes bad bs h = absurd h

-- P holds of the place of each of these tokens
abbrev pub EachToken : (Pos → Type 0) → List Token → Type 0
EachToken P [] = Unit {0}
EachToken P (t ∷ ts) = P t.at × EachToken P ts

-- each is before all after it
abbrev pub InOrder : List Token → Type 0
InOrder [] = Unit {0}
InOrder (t ∷ ts) = EachToken (Before t.at) ts × InOrder ts

each_as : (P Q : Pos → Type 0) → ((p : Pos) → P p → Q p) → (ts : List Token) → EachToken P ts
    → EachToken Q ts
each_as P Q f [] h = tt
each_as P Q f (t ∷ ts) h = (f t.at h.0, each_as P Q f ts h.1)

pub in_order : (at : Pos) (bytes : List ℕ) (ts : List Token) → Tokens at bytes ts
    → EachToken (UpTo at) ts × InOrder ts
in_order at bytes [] h = (tt, tt)
in_order at bytes (t ∷ ts) (rest, b, more) =
    let further = in_order b.next rest ts more in
    let here : UpTo at t.at = subst (UpTo at) (sym b.place) (up_to_after at b.gap) in
    let ends : Before t.at b.next = subst (Before t.at) (sym b.next_is)
    (before_after t.at b.text (has_bytes t.kind b.text b.spelt)) in
    let later = each_as (UpTo b.next) (Before t.at) (λ p h. before_up_to ends h) ts further.0 in (
      (here, each_as (Before t.at) (UpTo at) (λ p h. inr (up_to_before here h)) ts later),
      (later, further.1),
    )

-- ---- further on

each_down : (P : Pos → Type 0) (front rest : List Token) → EachToken P (front ++ rest)
    → EachToken P rest
each_down P [] rest h = h
each_down P (t ∷ front) rest h = each_down P front rest h.1

pub each_further : (P : Pos → Type 0) → {ts rest : List Token} → Adds ts rest → EachToken P ts
    → EachToken P rest
each_further P {rest = rest} a h = each_down P a.front rest (subst (EachToken P) a.is h)

order_down : (front rest : List Token) → InOrder (front ++ rest) → InOrder rest
order_down [] rest h = h
order_down (t ∷ front) rest h = order_down front rest h.1

pub order_further : {ts rest : List Token} → Adds ts rest → InOrder ts → InOrder rest
order_further {rest = rest} a h = order_down a.front rest (subst InOrder a.is h)
