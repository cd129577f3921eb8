-- What is spelled takes tokens.
use Rattle.std.proofs.Common.{ℕ, ◌<◌, ◌≤◌, inl, inr, List, length, ap, arith, ℤ}
use Rattle.guest_syntax.specs.Forms.{Form, ◌then◌, IsToken, IsName, IsNumber, IsEnd, IsLiteral, in_braces}
use Rattle.guest_syntax.specs.Grammar.{IsOperand, IsOp, IsExpr, IsTimes, IsStatement, AreStatements, IsBlock, IsObject, IsThread}
use Rattle.guest_syntax.specs.Tokens.{TokenKind, symbol, Token}
use Rattle.guest_syntax.specs.Tree.{Name, Operand, local, literal, Expr, single, both, Stmt, load, store, add, cas, wait, set, assert, if_then, if_else, repeat, leave, Block, nothing, next, Thread}
use Rattle.guest_syntax.specs.declared.tree.{Object.Object, Op.Op}
use Rattle.guest_syntax.specs.declared.token.Symbol.TheVariants as symbols
use Rattle.guest_syntax.specs.declared.tree.Op.TheVariants as ops
use Rattle.guest_syntax.specs.declared.tree.Object.TheVariants as objects

abbrev pub Shrinks : Form → Type 0
Shrinks F = (ts rest : List Token) → F ts rest → length rest ≤ length ts

pub then_shrinks : (A B : Form) → Shrinks A → Shrinks B → Shrinks (A then B)
then_shrinks A B a b ts rest h = omega (arith, a ts h.0 h.1, b h.0 rest h.2)

pub token_shorter : (k : TokenKind) (ts rest : List Token) → IsToken k ts rest → length rest < length ts
token_shorter k ts rest h = omega (arith, ap length h.1)

pub token_shrinks : (k : TokenKind) → Shrinks (IsToken k)
token_shrinks k ts rest h = omega (arith, token_shorter k ts rest h)

pub name_shrinks : (n : Name) → Shrinks (IsName n)
name_shrinks n ts rest h = omega (arith, ap length h)

pub number_shrinks : (limit n : ℕ) → Shrinks (IsNumber limit n)
number_shrinks limit n ts rest h = token_shrinks _ ts rest h.1

pub literal_shrinks : (z : ℤ) → Shrinks (IsLiteral z)
literal_shrinks z ts rest (n, inl h) = number_shrinks _ n ts rest h.1
literal_shrinks z ts rest (n, inr h) = then_shrinks (IsToken (symbol symbols.Minus)) (IsNumber _ n)
    (token_shrinks _) (number_shrinks _ n) ts rest h.1

pub operand_shrinks : (a : Operand) → Shrinks (IsOperand a)
operand_shrinks (local n) = name_shrinks n
operand_shrinks (literal z) = literal_shrinks z

operand_end_shrinks : (a : Operand) → Shrinks (IsOperand a then IsEnd)
operand_end_shrinks a = then_shrinks _ _ (operand_shrinks a) (token_shrinks _)

op_shrinks : (op : Op) → Shrinks (IsOp op)
op_shrinks ops.Add = token_shrinks _
op_shrinks op = token_shrinks _

pub expr_shrinks : (e : Expr) → Shrinks (IsExpr e)
expr_shrinks (single a) = operand_shrinks a
expr_shrinks (both a op b) = then_shrinks _ _ (operand_shrinks a)
    (then_shrinks _ _ (op_shrinks op) (operand_shrinks b))

braces_shrink : (inner : ℕ → Form) (room : ℕ) → ((less : ℕ) → Shrinks (inner less))
    → Shrinks (in_braces inner room)
braces_shrink inner room h ts rest (less, is, b) =
    then_shrinks _ _ (token_shrinks _) (then_shrinks _ _ (h less) (token_shrinks _)) ts rest b

times_shrinks : (n : ℕ) → Shrinks (IsTimes n)
times_shrinks n ts rest h = number_shrinks _ n ts rest h.1

-- a token and something that shrinks
pub after_token : (k : TokenKind) (F : Form) → Shrinks F → (ts rest : List Token)
    → (IsToken k then F) ts rest → length rest < length ts
after_token k F f ts rest h = omega (arith, token_shorter k ts h.0 h.1, f h.0 rest h.2)

mutual
  pub statement_shorter : (s : Stmt) (room : ℕ) (ts rest : List Token) → IsStatement s room ts rest
      → length rest < length ts
  statement_shorter (load r x) room = after_token _ _
      (then_shrinks _ _ (name_shrinks r) (then_shrinks _ _ (name_shrinks x) (token_shrinks _)))
  statement_shorter (store x a) room = after_token _ _
      (then_shrinks _ _ (name_shrinks x) (then_shrinks _ _ (operand_shrinks a) (token_shrinks _)))
  statement_shorter (add r x a) room =
      after_token _ _ (then_shrinks _ _ (name_shrinks r)
      (then_shrinks _ _ (name_shrinks x) (operand_end_shrinks a)))
  statement_shorter (cas r x a b) room =
      after_token _ _
      (then_shrinks _ _ (name_shrinks r)
      (then_shrinks _ _ (name_shrinks x) (then_shrinks _ _ (operand_shrinks a)
      (operand_end_shrinks b))))
  statement_shorter (wait c m) room = after_token _ _
      (then_shrinks _ _ (name_shrinks c) (then_shrinks _ _ (name_shrinks m) (token_shrinks _)))
  statement_shorter (set r e) room = after_token _ _
      (then_shrinks _ _ (name_shrinks r) (then_shrinks _ _ (expr_shrinks e) (token_shrinks _)))
  statement_shorter (assert e) room = after_token _ _
      (then_shrinks _ _ (expr_shrinks e) (token_shrinks _))
  statement_shorter (if_then e b) room = after_token _ _
      (then_shrinks _ _ (expr_shrinks e) (braces_shrink _ room (λ less. statements_shrink b less)))
  statement_shorter (if_else e b c) room =
      after_token _ _ (then_shrinks _ _ (expr_shrinks e)
      (then_shrinks _ _ (braces_shrink _ room (λ less. statements_shrink b less))
      (then_shrinks _ _ (token_shrinks _) (braces_shrink _ room
      (λ less. statements_shrink c less)))))
  statement_shorter (repeat n b) room = after_token _ _
      (then_shrinks _ _ (times_shrinks n) (braces_shrink _ room (λ less. statements_shrink b less)))
  statement_shorter leave room = after_token _ _ (token_shrinks _)
  statement_shorter s room = after_token _ _ (then_shrinks _ _ (name_shrinks _) (token_shrinks _))

  pub statements_shrink : (b : Block) (room : ℕ) → Shrinks (AreStatements b room)
  statements_shrink nothing room ts rest h = omega (arith, ap length h)
  statements_shrink (next at s b) room ts rest h =
      omega (arith, statement_shorter s room ts h.0 h.1.1, statements_shrink b room h.0 rest h.2)

pub block_shrinks : (b : Block) (room : ℕ) → Shrinks (IsBlock b room)
block_shrinks b room = braces_shrink _ room (λ less. statements_shrink b less)

-- a declaration takes tokens
pub object_shorter : (n : Name) (o : Object) (ts rest : List Token) → IsObject n o ts rest
    → length rest < length ts
object_shorter n (objects.Variable z) ts rest (inl (is, h)) =
    after_token _ _ (then_shrinks _ _ (name_shrinks n) (token_shrinks _)) ts rest h
object_shorter n (objects.Variable z) ts rest (inr h) =
    after_token _ _ (then_shrinks _ _ (name_shrinks n)
    (then_shrinks _ _ (token_shrinks _) (then_shrinks _ _ (literal_shrinks z) (token_shrinks _))))
    ts rest h
object_shorter n objects.Mutex ts rest h =
    after_token _ _ (then_shrinks _ _ (name_shrinks n) (token_shrinks _)) ts rest h
object_shorter n objects.Condition ts rest h =
    after_token _ _ (then_shrinks _ _ (name_shrinks n) (token_shrinks _)) ts rest h
object_shorter n (objects.Semaphore k) ts rest h =
    after_token _ _ (then_shrinks _ _ (name_shrinks n)
    (then_shrinks _ _ (token_shrinks _) (then_shrinks _ _ (number_shrinks _ k) (token_shrinks _))))
    ts rest h

pub thread_shorter : (t : Thread) (ts rest : List Token) → IsThread t ts rest
    → length rest < length ts
thread_shorter t ts rest h = after_token _ _
    (then_shrinks _ _ (name_shrinks t.name) (block_shrinks t.body _)) ts rest h
