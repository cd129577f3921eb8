-- A form puts tokens before others, and none of them is `bad`.
use Rattle.std.proofs.Common.{◌≡◌, ℕ, false, inl, inr, List, [], ◌∷◌, ◌++◌, refl, sym, ap, subst, ◌∙◌, append_assoc, ℤ}
use Rattle.std.proofs.lemmas.List.{append-nil}
use Rattle.guest_syntax.specs.Forms.{Form, ◌then◌, IsToken, IsName, IsNumber, IsEnd, IsLiteral, in_braces, each}
use Rattle.guest_syntax.specs.Grammar.{IsOperand, IsOp, IsExpr, IsTimes, IsStatement, AreStatements, IsBlock, IsObject, IsDeclaration, IsThread, IsTree}
use Rattle.guest_syntax.specs.Tokens.{TokenKind, name, number, Token}
use Rattle.guest_syntax.specs.Tree.{Name, Operand, local, literal, Expr, single, both, Stmt, load, store, add, cas, wait, set, assert, if_then, if_else, repeat, leave, Block, nothing, next, Declaration, Thread, Tree}
use Rattle.guest_syntax.specs.declared.tree.{Object.Object, Op.Op}
use Rattle.guest_syntax.specs.reader.SingleTokens.{is_bad}
use Rattle.guest_syntax.specs.declared.tree.Op.TheVariants as ops
use Rattle.guest_syntax.specs.declared.tree.Object.TheVariants as objects

abbrev pub Clean : List Token → Type 0
Clean [] = Unit {0}
Clean (t ∷ ts) = (is_bad t.kind ≡ false) × Clean ts

-- some tokens, none `bad`, and then the rest
pub record Adds (ts rest : List Token) : Type 0 where
  pub front : List Token
  pub is : ts ≡ front ++ rest
  pub clean : Clean front

abbrev pub Cleans : Form → Type 0
Cleans F = (ts rest : List Token) → F ts rest → Adds ts rest

clean_append : (a b : List Token) → Clean a → Clean b → Clean (a ++ b)
clean_append [] b c d = d
clean_append (t ∷ a) b c d = (c.0, clean_append a b c.1 d)

pub adds_none : (ts rest : List Token) → ts ≡ rest → Adds ts rest
adds_none ts rest e = record { front = []; is = e; clean = tt }

pub adds_then : {ts mid rest : List Token} → Adds ts mid → Adds mid rest → Adds ts rest
adds_then {rest = rest} a b = record {
  front = a.front ++ b.front;
  is = a.is ∙ ap (λ us. a.front ++ us) b.is ∙ sym (append_assoc a.front b.front rest);
  clean = clean_append a.front b.front a.clean b.clean;
}

then_c : (A B : Form) → Cleans A → Cleans B → Cleans (A then B)
then_c A B a b ts rest h = adds_then (a ts h.0 h.1) (b h.0 rest h.2)

pub token_c : (k : TokenKind) → is_bad k ≡ false → Cleans (IsToken k)
token_c k e ts rest h = record {
  front = record { kind = k; at = h.0 } ∷ [];
  is = h.1;
  clean = (e, tt);
}

name_c : (n : Name) → Cleans (IsName n)
name_c n ts rest h = token_c (name n.text) refl ts rest (n.at, h)

number_c : (limit n : ℕ) → Cleans (IsNumber limit n)
number_c limit n ts rest h = token_c (number n) refl ts rest h.1

literal_c : (z : ℤ) → Cleans (IsLiteral z)
literal_c z ts rest (n, inl h) = number_c _ n ts rest h.1
literal_c z ts rest (n, inr h) = then_c _ _ (token_c _ refl) (number_c _ n) ts rest h.1

operand_c : (a : Operand) → Cleans (IsOperand a)
operand_c (local n) = name_c n
operand_c (literal z) = literal_c z

operand_end_c : (a : Operand) → Cleans (IsOperand a then IsEnd)
operand_end_c a = then_c _ _ (operand_c a) (token_c _ refl)

op_c : (op : Op) → Cleans (IsOp op)
op_c ops.Add = token_c _ refl
op_c op = token_c _ refl

pub expr_c : (e : Expr) → Cleans (IsExpr e)
expr_c (single a) = operand_c a
expr_c (both a op b) = then_c _ _ (operand_c a) (then_c _ _ (op_c op) (operand_c b))

braces_c : (inner : ℕ → Form) (room : ℕ) → ((less : ℕ) → Cleans (inner less))
    → Cleans (in_braces inner room)
braces_c inner room h ts rest (less, is, b) =
    then_c _ _ (token_c _ refl) (then_c _ _ (h less) (token_c _ refl)) ts rest b

pub times_c : (n : ℕ) → Cleans (IsTimes n)
times_c n ts rest h = number_c _ n ts rest h.1

mutual
  pub statement_c : (s : Stmt) (room : ℕ) → Cleans (IsStatement s room)
  statement_c (load r x) room = then_c _ _ (token_c _ refl)
      (then_c _ _ (name_c r) (then_c _ _ (name_c x) (token_c _ refl)))
  statement_c (store x a) room = then_c _ _ (token_c _ refl)
      (then_c _ _ (name_c x) (then_c _ _ (operand_c a) (token_c _ refl)))
  statement_c (add r x a) room =
      then_c _ _ (token_c _ refl) (then_c _ _ (name_c r) (then_c _ _ (name_c x) (operand_end_c a)))
  statement_c (cas r x a b) room =
      then_c _ _ (token_c _ refl)
      (then_c _ _ (name_c r) (then_c _ _ (name_c x) (then_c _ _ (operand_c a) (operand_end_c b))))
  statement_c (wait c m) room = then_c _ _ (token_c _ refl)
      (then_c _ _ (name_c c) (then_c _ _ (name_c m) (token_c _ refl)))
  statement_c (set r e) room = then_c _ _ (token_c _ refl)
      (then_c _ _ (name_c r) (then_c _ _ (expr_c e) (token_c _ refl)))
  statement_c (assert e) room = then_c _ _ (token_c _ refl) (then_c _ _ (expr_c e) (token_c _ refl))
  statement_c (if_then e b) room = then_c _ _ (token_c _ refl)
      (then_c _ _ (expr_c e) (braces_c _ room (λ less. statements_c b less)))
  statement_c (if_else e b c) room = then_c _ _ (token_c _ refl)
      (then_c _ _ (expr_c e) (then_c _ _ (braces_c _ room (λ less. statements_c b less))
      (then_c _ _ (token_c _ refl) (braces_c _ room (λ less. statements_c c less)))))
  statement_c (repeat n b) room = then_c _ _ (token_c _ refl)
      (then_c _ _ (times_c n) (braces_c _ room (λ less. statements_c b less)))
  statement_c leave room = then_c _ _ (token_c _ refl) (token_c _ refl)
  statement_c s room = then_c _ _ (token_c _ refl) (then_c _ _ (name_c _) (token_c _ refl))

  pub statements_c : (b : Block) (room : ℕ) → Cleans (AreStatements b room)
  statements_c nothing room ts rest h = adds_none ts rest h
  statements_c (next at s b) room ts rest h =
      adds_then (statement_c s room ts h.0 h.1.1) (statements_c b room h.0 rest h.2)

pub block_c : (b : Block) (room : ℕ) → Cleans (IsBlock b room)
block_c b room = braces_c _ room (λ less. statements_c b less)

object_c : (n : Name) (o : Object) → Cleans (IsObject n o)
object_c n (objects.Variable z) ts rest (inl h) =
    then_c _ _ (token_c _ refl) (then_c _ _ (name_c n) (token_c _ refl)) ts rest h.1
object_c n (objects.Variable z) ts rest (inr h) =
    then_c _ _ (token_c _ refl) (then_c _ _ (name_c n)
    (then_c _ _ (token_c _ refl) (then_c _ _ (literal_c z) (token_c _ refl)))) ts rest h
object_c n objects.Mutex ts rest h = then_c _ _ (token_c _ refl)
    (then_c _ _ (name_c n) (token_c _ refl)) ts rest h
object_c n objects.Condition ts rest h =
    then_c _ _ (token_c _ refl) (then_c _ _ (name_c n) (token_c _ refl)) ts rest h
object_c n (objects.Semaphore k) ts rest h =
    then_c _ _ (token_c _ refl) (then_c _ _ (name_c n)
    (then_c _ _ (token_c _ refl) (then_c _ _ (number_c _ k) (token_c _ refl)))) ts rest h

pub declaration_c : (d : Declaration) → Cleans (IsDeclaration d)
declaration_c d = object_c d.name d.object

thread_c : (t : Thread) → Cleans (IsThread t)
thread_c t = then_c _ _ (token_c _ refl)
    (then_c _ _ (name_c t.name) (block_c t.body _))

pub each_c : {A : Type 0} (F : A → Form) → ((a : A) → Cleans (F a)) → (xs : List A)
    → Cleans (each F xs)
each_c F f [] ts rest h = adds_none ts rest h
each_c F f (x ∷ xs) ts rest h = adds_then (f x ts h.0 h.1) (each_c F f xs h.0 rest h.2)

pub tree_clean : (t : Tree) (ts : List Token) → IsTree t ts → Clean ts
tree_clean t ts h =
    let a = then_c _ _ (each_c IsDeclaration declaration_c t.declarations)
    (each_c IsThread thread_c t.threads) ts [] h in
    subst Clean (sym (append-nil a.front) ∙ sym a.is) a.clean
