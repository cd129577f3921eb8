-- One token: what was read is spelled there, and what is spelled there is read.
use Rattle.std.specs.Prelude.{nat_le, nat_lt}
use Rattle.std.proofs.Common.{◌≡◌, ℕ, ◌≤◌, true, false, List, [], ◌∷◌, Some, None, refl, ap, subst, ◌∙◌, arith, rules}
use Rattle.std.proofs.lemmas.Bool.{leb-true, le-leb, ltb-true, lt-ltb}
use denote.Enum.Bare.{same_true}
use Rattle.guest_syntax.specs.{Forms.{IsToken, IsName, IsNumber}, Grammar.IsTimes}
use Rattle.guest_syntax.specs.Tokens.{TokenKind, name, keyword, number, symbol, bad, Token}
use Rattle.guest_syntax.specs.{Tree.Name, declared.limits.TheConstants.REPEATS}
use Rattle.guest_syntax.specs.declared.token.Symbol.{Symbol}
use Rattle.guest_syntax.specs.reader.SingleTokens.{is_bad, token_at, is_symbol, symbol_from, name_in, name_from, number_in, number_from, times_from}
use Rattle.guest_syntax.proofs.OptionCases.{bind_some, some_is, cond_ok, cond_no}
use Rattle.guest_syntax.specs.declared.token.Symbol.TheVariants as symbols
use Rattle.guest_syntax.specs.contracts.token.Symbol as symbol-type
use Rattle.guest_syntax.specs.contracts.token.SymbolPartialEq.TheImpl as symbol-eq

pub token_takes : (ts : List Token) (x : Token × List Token) → token_at ts ≡ Some x
    → (is_bad x.0.kind ≡ false) × (ts ≡ x.0 ∷ x.1)
unfolding token_at
token_takes [] x e = absurd cc
token_takes (t ∷ ts) x e =
    let g = cond_no (is_bad t.kind) (Some (t, ts)) x e in
    let is = some_is (t, ts) x g.1 in
    subst (λ (y : Token × List Token). (is_bad y.0.kind ≡ false) × (t ∷ ts ≡ y.0 ∷ y.1)) is
    (g.0, refl)

pub token_again : (t : Token) (ts : List Token) → is_bad t.kind ≡ false
    → token_at (t ∷ ts) ≡ Some (t, ts)
unfolding token_at
token_again t ts e = rw e refl

pub kind_again : (k : TokenKind) (ts rest : List Token) (h : IsToken k ts rest) → is_bad k ≡ false
    → token_at ts ≡ Some (record { kind = k; at = h.0 }, rest)
kind_again k ts rest h e = ap token_at h.1 ∙ token_again (record { kind = k; at = h.0 }) rest e

pub kind_takes : (k : TokenKind) (ts : List Token) (x : Token × List Token) → token_at ts ≡ Some x
    → x.0.kind ≡ k → IsToken k ts x.1
kind_takes k ts x e is = (
  x.0.at,
  (token_takes ts x e).1 ∙
      ap (λ (k : TokenKind). record { kind = k; at = x.0.at } ∷ x.1) is,
)

pub same_symbol : (s u : Symbol) → symbol-eq.eq-value.it s u ≡ true → s ≡ u
same_symbol s u e = same_true symbol-type.the_type (search rules) s u e

pub symbol_itself : (s : Symbol) → symbol-eq.eq-value.it s s ≡ true
symbol_itself symbols.Equal = refl
symbol_itself s = refl

is_symbol_kind : (s : Symbol) (k : TokenKind) → is_symbol s k ≡ true → k ≡ symbol s
is_symbol_kind s (symbol u) e = ap symbol (same_symbol u s e)
is_symbol_kind s k e = absurd cc

pub symbol_takes : (s : Symbol) (ts rest : List Token) → symbol_from s ts ≡ Some rest
    → IsToken (symbol s) ts rest
unfolding symbol_from
symbol_takes s ts rest e =
    let t = bind_some (token_at ts) _ _ e in
    let g = cond_ok (is_symbol s t.0.0.kind) t.0.1 rest t.2 in
    subst (IsToken (symbol s) ts) g.1 (kind_takes (symbol s) ts t.0 t.1
    (is_symbol_kind s t.0.0.kind g.0))

pub symbol_again : (s : Symbol) (ts rest : List Token) → IsToken (symbol s) ts rest
    → symbol_from s ts ≡ Some rest
unfolding symbol_from
symbol_again s ts rest h = rw (kind_again (symbol s) ts rest h refl, symbol_itself s) refl

name_in_is : (t : Token) (k : TokenKind) (n : Name) → t.kind ≡ k → name_in t ≡ Some n
    → t ≡ record { kind = name n.text; at = n.at }
name_in_is t (name s) n e h = let is : record { text = s; at = t.at } ≡ n =
    some_is _ n (rw e at h) in rw (← is) (ap (λ (k : TokenKind). record { kind = k; at = t.at }) e)
name_in_is t k n e h = absurd (let h : None ≡ Some n = rw e at h in cc)

pub name_takes : (ts : List Token) (x : Name × List Token) → name_from ts ≡ Some x
    → IsName x.0 ts x.1
unfolding name_from
name_takes ts x e =
    let t = bind_some (token_at ts) _ _ e in
    let n = bind_some (name_in t.0.0) _ _ t.2 in
    subst (λ (y : Name × List Token). IsName y.0 ts y.1) (some_is (n.0, t.0.1) x n.2)
    ((token_takes ts t.0 t.1).1 ∙ ap (λ u. u ∷ t.0.1)
    (name_in_is t.0.0 t.0.0.kind n.0 refl n.1))

pub name_again : (n : Name) (ts rest : List Token) → IsName n ts rest
    → name_from ts ≡ Some (n, rest)
unfolding name_from
name_again n ts rest h = rw (kind_again (name n.text) ts rest (n.at, h) refl) refl

number_in_is : (limit : ℕ) (k : TokenKind) (n : ℕ) → number_in limit k ≡ Some n → (n ≤ limit)
    × (k ≡ number n)
number_in_is limit (name s) n h = absurd cc
number_in_is limit (keyword w) n h = absurd cc
number_in_is limit (number m) n h = let g =
    cond_ok (nat_le m limit) m n h in (omega (arith, leb-true m limit g.0, g.1), ap number g.1)
number_in_is limit (symbol w) n h = absurd cc
number_in_is limit bad n h = absurd cc

pub number_takes : (limit : ℕ) (ts : List Token) (x : ℕ × List Token)
    → number_from limit ts ≡ Some x → IsNumber limit x.0 ts x.1
unfolding number_from
number_takes limit ts x e =
    let t = bind_some (token_at ts) _ _ e in
    let n = bind_some (number_in limit t.0.0.kind) _ _ t.2 in
    let is = number_in_is limit t.0.0.kind n.0 n.1 in
    subst (λ (y : ℕ × List Token). IsNumber limit y.0 ts y.1) (some_is (n.0, t.0.1) x n.2)
    (is.0, kind_takes (number n.0) ts t.0 t.1 is.1)

pub number_again : (limit n : ℕ) (ts rest : List Token) → IsNumber limit n ts rest
    → number_from limit ts ≡ Some (n, rest)
unfolding number_from
number_again limit n ts rest h = let le : nat_le n limit ≡ true =
    le-leb n limit h.0 in rw (kind_again (number n) ts rest h.1 refl, le) refl

pub times_takes : (ts : List Token) (x : ℕ × List Token) → times_from ts ≡ Some x
    → IsTimes x.0 ts x.1
unfolding times_from
times_takes ts x e =
    let t = bind_some (token_at ts) _ _ e in
    let n = bind_some (number_in REPEATS t.0.0.kind) _ _ t.2 in
    let is = number_in_is REPEATS t.0.0.kind n.0 n.1 in
    let g = cond_ok (nat_lt 0 n.0) (n.0, t.0.1) x n.2 in
    subst (λ (y : ℕ × List Token). IsTimes y.0 ts y.1) g.1
    (ltb-true 0 n.0 g.0, (is.0, kind_takes (number n.0) ts t.0 t.1 is.1))

pub times_again : (n : ℕ) (ts rest : List Token) → IsTimes n ts rest
    → times_from ts ≡ Some (n, rest)
unfolding times_from
times_again n ts rest h =
    let le : nat_le n REPEATS ≡ true = le-leb n REPEATS h.1.0 in
    let some : nat_lt 0 n ≡ true = lt-ltb 0 n h.0 in
    rw (kind_again (number n) ts rest h.1.1 refl, le, some) refl
