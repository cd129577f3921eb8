-- Operands and expressions: what was read is spelled so, and what is spelled so is read.
use Rattle.std.specs.Prelude.{nat_le, pos}
use Rattle.std.proofs.Common.{◌≡◌, ℤ, true, false, inl, inr, List, ◌∷◌, Option, Some, None, refl, sym, ap, subst, ◌∙◌}
use Rattle.std.proofs.lemmas.Bool.{leb-true, le-leb}
use Rattle.guest_syntax.specs.{Forms.{IsToken, IsLiteral}, Grammar.{IsOperand, IsOp, IsExpr}}
use Rattle.guest_syntax.specs.Tokens.{TokenKind, name, number, symbol, Token}
use Rattle.guest_syntax.specs.Tree.{Operand, local, literal, Expr, single, both}
use Rattle.guest_syntax.specs.declared.limits.TheConstants.{NUMBER}
use Rattle.guest_syntax.specs.declared.{place.Pos.Pos, token.Symbol.Symbol, tree.Op.Op}
use Rattle.guest_syntax.specs.reader.Expressions.{negated, literal_by, literal_from, operand_by, operand_from, op_of, expr_by, expr_from}
use Rattle.guest_syntax.specs.reader.SingleTokens.{is_bad, token_at, number_from}
use Rattle.guest_syntax.specs.reader.Statements.{is_else}
use Rattle.guest_syntax.proofs.OptionCases.{bind_some, some_is, cond_ok}
use Rattle.guest_syntax.proofs.TokenReaders.{token_takes, token_again, kind_again, kind_takes, number_takes, number_again}
use Rattle.guest_syntax.specs.declared.token.Symbol.TheVariants as symbols
use Rattle.guest_syntax.specs.declared.tree.Op.TheVariants as ops

-- ---- literals

literal_by_takes : (k : TokenKind) (at : Pos) (ts : List Token) (x : ℤ × List Token)
    → literal_by k ts ≡ Some x → IsLiteral x.0 (record { kind = k; at = at } ∷ ts) x.1
literal_by_takes (number n) at ts x e =
    let g = cond_ok (nat_le n NUMBER) (pos n, ts) x e in
    subst (λ (y : ℤ × List Token). IsLiteral y.0 (record { kind = number n; at = at } ∷ ts) y.1)
    g.1 (n, inl (refl, (leb-true n NUMBER g.0, (at, refl))))
literal_by_takes (symbol symbols.Minus) at ts x e =
    let n = bind_some (number_from NUMBER ts) _ _ e in
    subst (λ (y : ℤ × List Token). IsLiteral y.0
    (record { kind = symbol symbols.Minus; at = at } ∷ ts) y.1)
    (some_is (negated n.0.0, n.0.1) x n.2)
    (n.0.0, inr (refl, (ts, (at, refl), number_takes NUMBER ts n.0 n.1)))
literal_by_takes k at ts x e = absurd cc

pub literal_takes : (ts : List Token) (x : ℤ × List Token) → literal_from ts ≡ Some x
    → IsLiteral x.0 ts x.1
unfolding literal_from
literal_takes ts x e =
    let t = bind_some (token_at ts) _ _ e in
    subst (λ (us : List Token). IsLiteral x.0 us x.1) (sym (token_takes ts t.0 t.1).1)
    (literal_by_takes t.0.0.kind t.0.0.at t.0.1 x t.2)

-- how a literal begins, and what reading does with it
record Literally (z : ℤ) (ts rest : List Token) : Type 0 where
  first : Token
  more : List Token
  is : ts ≡ first ∷ more
  good : is_bad first.kind ≡ false
  read : literal_by first.kind more ≡ Some (z, rest)
  operand : operand_by first more first.kind ≡ Some (literal z, rest)

literally : (z : ℤ) (ts rest : List Token) → IsLiteral z ts rest → Literally z ts rest
literally z ts rest (n, inl (is, (le, (at, e)))) =
    let passes : nat_le n NUMBER ≡ true = le-leb n NUMBER le in
    record {
      first = record { kind = number n; at = at };
      more = rest;
      is = e;
      good = refl;
      read = rw (passes, is) refl;
      operand = rw (passes, is) refl;
    }
literally z ts rest (n, inr (is, (mid, (at, e), h))) =
    let r = number_again NUMBER n mid rest h in
    record {
      first = record { kind = symbol symbols.Minus; at = at };
      more = mid;
      is = e;
      good = refl;
      read = rw (r, is) refl;
      operand = rw (r, is) refl;
    }

pub literal_again : (z : ℤ) (ts rest : List Token) → IsLiteral z ts rest
    → literal_from ts ≡ Some (z, rest)
unfolding literal_from
literal_again z ts rest h =
    let l = literally z ts rest h in
    ap literal_from l.is ∙ rw (token_again l.first l.more l.good) l.read

-- ---- operands

operand_by_takes : (t : Token) (k : TokenKind) (ts : List Token) (x : Operand × List Token)
    → operand_by t ts k ≡ Some x → IsOperand x.0 (record { kind = k; at = t.at } ∷ ts) x.1
operand_by_takes t (name s) ts x e = subst
    (λ (y : Operand × List Token). IsOperand y.0 (record { kind = name s; at = t.at } ∷ ts) y.1)
    (some_is (local (record { text = s; at = t.at }), ts) x e) refl
operand_by_takes t k ts x e =
    let z = bind_some (literal_by k ts) (λ z. Some (literal z.0, z.1)) x e in
    subst (λ (y : Operand × List Token). IsOperand y.0 (record { kind = k; at = t.at } ∷ ts) y.1)
    (some_is (literal z.0.0, z.0.1) x z.2) (literal_by_takes k t.at ts z.0 z.1)

pub operand_takes : (ts : List Token) (x : Operand × List Token) → operand_from ts ≡ Some x
    → IsOperand x.0 ts x.1
unfolding operand_from
operand_takes ts x e =
    let t = bind_some (token_at ts) _ _ e in
    subst (λ (us : List Token). IsOperand x.0 us x.1) (sym (token_takes ts t.0 t.1).1)
    (operand_by_takes t.0.0 t.0.0.kind t.0.1 x t.2)

pub operand_again : (a : Operand) (ts rest : List Token) → IsOperand a ts rest
    → operand_from ts ≡ Some (a, rest)
unfolding operand_from
operand_again (local n) ts rest h = rw (kind_again (name n.text) ts rest (n.at, h) refl) refl
operand_again (literal z) ts rest h =
    let l = literally z ts rest h in
    ap operand_from l.is ∙ rw (token_again l.first l.more l.good) l.operand

-- ---- expressions

op_of_is : (k : TokenKind) (op : Op) → op_of k ≡ Some op → (ts rest : List Token) → IsToken k ts rest
    → IsOp op ts rest
op_of_is (symbol symbols.Assign) op e ts rest h = absurd cc
op_of_is (symbol symbols.Open) op e ts rest h = absurd cc
op_of_is (symbol symbols.Close) op e ts rest h = absurd cc
op_of_is (symbol symbols.End) op e ts rest h = absurd cc
op_of_is (symbol s) op e ts rest h = subst (λ o. IsOp o ts rest) (some_is _ op e) h
op_of_is k op e ts rest h = absurd cc

op_token : (s : Symbol) (op : Op) (ts rest : List Token) → op_of (symbol s) ≡ Some op
    → IsToken (symbol s) ts rest → (t : Token) × (token_at ts ≡ Some (t, rest))
    × (op_of t.kind ≡ Some op)
op_token s op ts rest e h = (
  record { kind = symbol s; at = h.0 },
  kind_again (symbol s) ts rest h refl,
  e,
)

op_read : (op : Op) (ts rest : List Token) → IsOp op ts rest → (t : Token)
    × (token_at ts ≡ Some (t, rest)) × (op_of t.kind ≡ Some op)
op_read ops.Add ts rest h = op_token symbols.Plus ops.Add ts rest refl h
op_read ops.Subtract ts rest h = op_token symbols.Minus ops.Subtract ts rest refl h
op_read ops.Multiply ts rest h = op_token symbols.Times ops.Multiply ts rest refl h
op_read ops.Equal ts rest h = op_token symbols.Equal ops.Equal ts rest refl h
op_read ops.NotEqual ts rest h = op_token symbols.NotEqual ops.NotEqual ts rest refl h
op_read ops.Less ts rest h = op_token symbols.Less ops.Less ts rest refl h
op_read ops.LessOrEqual ts rest h = op_token symbols.LessOrEqual ops.LessOrEqual ts rest refl h
op_read ops.Greater ts rest h = op_token symbols.Greater ops.Greater ts rest refl h
op_read ops.GreaterOrEqual ts rest h =
    op_token symbols.GreaterOrEqual ops.GreaterOrEqual ts rest refl h

-- the next token ends an expression and a choice
pub record Ends (ts : List Token) : Type 0 where
  pub first : Token
  pub more : List Token
  pub read : token_at ts ≡ Some (first, more)
  pub no_op : op_of first.kind ≡ None
  pub no_else : is_else first.kind ≡ false

expr_by_takes : (a : Operand) (k : TokenKind) (o : Option Op) → op_of k ≡ o
    → (ts before following : List Token) (x : Expr × List Token) → IsOperand a ts before
    → IsToken k before following → expr_by a before following o ≡ Some x → IsExpr x.0 ts x.1
expr_by_takes a k None ok ts before following x ha hk e =
    subst (λ (y : Expr × List Token). IsExpr y.0 ts y.1) (some_is (single a, before) x e) ha
expr_by_takes a k (Some op) ok ts before following x ha hk e =
    let b = bind_some (operand_from following) _ _ e in
    subst (λ (y : Expr × List Token). IsExpr y.0 ts y.1) (some_is (both a op b.0.0, b.0.1) x b.2) (
      before,
      ha,
      (
        following,
        op_of_is k op ok before following hk,
        operand_takes following b.0 b.1,
      ),
    )

pub expr_takes : (ts : List Token) (x : Expr × List Token) → expr_from ts ≡ Some x
    → IsExpr x.0 ts x.1
unfolding expr_from
expr_takes ts x e =
    let a = bind_some (operand_from ts) _ _ e in
    let t = bind_some (token_at a.0.1) _ _ a.2 in
    expr_by_takes a.0.0 t.0.0.kind (op_of t.0.0.kind) refl ts a.0.1 t.0.1 x
    (operand_takes ts a.0 a.1) (kind_takes t.0.0.kind a.0.1 t.0 t.1 refl) t.2

pub expr_again : (x : Expr) (ts rest : List Token) → IsExpr x ts rest → Ends rest
    → expr_from ts ≡ Some (x, rest)
unfolding expr_from
expr_again (single a) ts rest h ends = rw (operand_again a ts rest h, ends.read, ends.no_op) refl
expr_again (both a op b) ts rest (mid, ha, (following, ho, hb)) ends =
    let o = op_read op mid following ho in
    rw (operand_again a ts mid ha, o.1, o.2, operand_again b following rest hb) refl
