-- Reading literals, operands and expressions from the front of a list of tokens.
use Rattle.std.specs.Prelude.{ℕ, ℤ, pos, ◌-ℤ◌, List, nat_le, Option, Some, None, if◌then◌else◌}
use Rattle.guest_syntax.specs.Tokens.{TokenKind, name, number, symbol, Token}
use Rattle.guest_syntax.specs.{Tree.{Operand, Expr}, declared.limits.TheConstants.NUMBER}
use Rattle.guest_syntax.specs.{declared.tree.Op.Op, reader.Reads.Read, reader.Scanner.◌>>=◌}
use Rattle.guest_syntax.specs.reader.SingleTokens.{token_at, number_from}
use Rattle.guest_syntax.specs.declared.token.Symbol.TheVariants as symbols
use Rattle.guest_syntax.specs.declared.tree.Op.TheVariants as ops
use Rattle.guest_syntax.specs.Tree as tree

abbrev pub negated : ℕ → ℤ
negated n = pos 0 -ℤ pos n

-- a literal, whose first token was read
abbrev pub literal_by : TokenKind → List Token → Read ℤ
literal_by (number n) ts = if nat_le n NUMBER then Some (pos n, ts) else None
literal_by (symbol symbols.Minus) ts = number_from NUMBER ts >>= λ n. Some (negated n.0, n.1)
literal_by _ ts = None

unfoldable pub literal_from : List Token → Read ℤ
literal_from ts = do
  t ← token_at ts
  literal_by t.0.kind t.1

abbrev pub operand_by : Token → List Token → TokenKind → Read Operand
operand_by t ts (name s) = Some (tree.local (record { text = s; at = t.at }), ts)
operand_by t ts k = literal_by k ts >>= λ z. Some (tree.literal z.0, z.1)

unfoldable pub operand_from : List Token → Read Operand
operand_from ts = do
  t ← token_at ts
  operand_by t.0 t.1 t.0.kind

abbrev pub op_of : TokenKind → Option Op
op_of (symbol symbols.Plus) = Some ops.Add
op_of (symbol symbols.Minus) = Some ops.Subtract
op_of (symbol symbols.Times) = Some ops.Multiply
op_of (symbol symbols.Equal) = Some ops.Equal
op_of (symbol symbols.NotEqual) = Some ops.NotEqual
op_of (symbol symbols.Less) = Some ops.Less
op_of (symbol symbols.LessOrEqual) = Some ops.LessOrEqual
op_of (symbol symbols.Greater) = Some ops.Greater
op_of (symbol symbols.GreaterOrEqual) = Some ops.GreaterOrEqual
op_of _ = None

-- an expression, whose first operand was read, and what may be an operator
abbrev pub expr_by : Operand → List Token → List Token → Option Op → Read Expr
expr_by a before following None = Some (tree.single a, before)
expr_by a before following (Some op) = operand_from following >>= λ b. Some
    (tree.both a op b.0, b.1)

unfoldable pub expr_from : List Token → Read Expr
expr_from ts = do
  a ← operand_from ts
  t ← token_at a.1
  expr_by a.0 a.1 t.1 (op_of t.0.kind)
