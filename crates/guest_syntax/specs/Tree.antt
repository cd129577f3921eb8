-- Trees, without where they lie in memory.
use Rattle.std.specs.Prelude.{ℕ, ℤ, List, [], ◌∷◌, map, Some, None}
use Rattle.guest_syntax.specs.declared.{place.Pos.Pos, tree.Object.Object, tree.Op.Op}
use Rattle.guest_syntax.specs.declared.tree.Statement.{Statement, fold-Statement}
use Rattle.guest_syntax.specs.declared.tree.Statement.TheFolds.{fold-Placed}
use Rattle.guest_syntax.specs.declared.tree.Statement.TheOpen.{Statement-F, Placed-F}
use Rattle.guest_syntax.specs.declared.tree.Name as code-name
use Rattle.guest_syntax.specs.declared.tree.Operand as code-operand
use Rattle.guest_syntax.specs.declared.tree.Operand.TheVariants as operands
use Rattle.guest_syntax.specs.declared.tree.Expr as code-expr
use Rattle.guest_syntax.specs.declared.tree.Expr.TheVariants as exprs
use Rattle.guest_syntax.specs.declared.tree.Declaration as code-declaration
use Rattle.guest_syntax.specs.declared.tree.Thread as code-thread
use Rattle.guest_syntax.specs.declared.tree.Tree as code-tree
use Rattle.guest_syntax.specs.declared.tree.Placed as code-placed

pub record Name : Type 0 where
  pub text : List ℕ
  pub at : Pos

pub data Operand : Type 0 where
  local : Name → Operand
  literal : ℤ → Operand

pub data Expr : Type 0 where
  single : Operand → Expr
  both : Operand → Op → Operand → Expr

mutual
  pub data Stmt : Type 0 where
    load : (r x : Name) → Stmt
    store : (x : Name) → Operand → Stmt
    -- the local, the variable and what is added to it
    add : (r x : Name) → Operand → Stmt
    -- the local, the variable, the value that it is to have and the new one
    cas : (r x : Name) → (a b : Operand) → Stmt
    lock : (m : Name) → Stmt
    unlock : (m : Name) → Stmt
    wait : (c m : Name) → Stmt
    signal : (c : Name) → Stmt
    broadcast : (c : Name) → Stmt
    acquire : (s : Name) → Stmt
    release : (s : Name) → Stmt
    set : (r : Name) → Expr → Stmt
    assert : Expr → Stmt
    if_then : Expr → Block → Stmt
    if_else : Expr → Block → Block → Stmt
    repeat : ℕ → Block → Stmt
    leave : Stmt

  pub data Block : Type 0 where
    nothing : Block
    -- a statement, the place of its first byte, and those after it
    next : Pos → Stmt → Block → Block

pub record Placed : Type 0 where
  pub at : Pos
  pub statement : Stmt

pub record Declaration : Type 0 where
  pub name : Name
  pub object : Object

pub record Thread : Type 0 where
  pub name : Name
  pub body : Block

pub record Tree : Type 0 where
  pub declarations : List Declaration
  pub threads : List Thread

-- ---- what the code's values stand for

abbrev pub name_view : code-name.Name → Name
name_view n = record { text = n.text.items; at = n.at }

abbrev pub operand_view : code-operand.Operand → Operand
operand_view (operands.Local n) = local (name_view n)
operand_view (operands.Literal z) = literal z

abbrev pub expr_view : code-expr.Expr → Expr
expr_view (exprs.Single a) = single (operand_view a)
expr_view (exprs.Both a op b) = both (operand_view a) op (operand_view b)

abbrev pub block_of : List Placed → Block
block_of [] = nothing
block_of (s ∷ ss) = next s.at s.statement (block_of ss)

-- one level, with each statement inside already seen
abbrev pub view_step : Statement-F Stmt Placed → Stmt
view_step (Statement-F.Load r x) = load (name_view r) (name_view x)
view_step (Statement-F.Store x a) = store (name_view x) (operand_view a)
view_step (Statement-F.Add r x a) = add (name_view r) (name_view x) (operand_view a)
view_step (Statement-F.Cas r x a b) = cas (name_view r) (name_view x) (operand_view a)
    (operand_view b)
view_step (Statement-F.Lock m) = lock (name_view m)
view_step (Statement-F.Unlock m) = unlock (name_view m)
view_step (Statement-F.Wait c m) = wait (name_view c) (name_view m)
view_step (Statement-F.Signal c) = signal (name_view c)
view_step (Statement-F.Broadcast c) = broadcast (name_view c)
view_step (Statement-F.Acquire s) = acquire (name_view s)
view_step (Statement-F.Release s) = release (name_view s)
view_step (Statement-F.Set r e) = set (name_view r) (expr_view e)
view_step (Statement-F.Assert e) = assert (expr_view e)
view_step (Statement-F.If e b None) = if_then (expr_view e) (block_of b.items)
view_step (Statement-F.If e b (Some c)) =
    if_else (expr_view e) (block_of b.items) (block_of c.items)
view_step (Statement-F.Repeat n b) = repeat n (block_of b.items)
view_step Statement-F.Leave = leave

abbrev pub placed_step : Placed-F Stmt Placed → Placed
placed_step p = record { at = p.at; statement = p.statement }

abbrev pub stmt_view : Statement → Stmt
stmt_view = fold-Statement Stmt Placed view_step placed_step

abbrev pub placed_view : code-placed.Placed → Placed
placed_view = fold-Placed Stmt Placed view_step placed_step

abbrev pub block_view : List code-placed.Placed → Block
block_view ss = block_of (map placed_view ss)

abbrev pub declaration_view : code-declaration.Declaration → Declaration
declaration_view d = record { name = name_view d.name; object = d.object }

abbrev pub thread_view : code-thread.Thread → Thread
thread_view t = record { name = name_view t.name; body = block_view t.body.items }

abbrev pub tree_view : code-tree.Tree → Tree
tree_view t = record {
  declarations = map declaration_view t.declarations.items;
  threads = map thread_view t.threads.items;
}
