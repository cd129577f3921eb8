-- The grammar: which tokens spell a tree, and which bytes.
use Rattle.std.specs.Prelude.{◌≡◌, ℕ, suc, ◌<◌, ◌≤◌, ℤ, pos, ◌⊎◌, List, [], length}
use Rattle.std.specs.List.{AllByRecursion}
use Rattle.guest_syntax.specs.Forms.{Form, ◌then◌, IsKeyword, IsSymbol, IsName, IsNumber, IsEnd, IsLiteral, placed_at, in_braces, each}
use Rattle.guest_syntax.specs.Tokens.{Token, Tokens}
use Rattle.guest_syntax.specs.Tree.{Name, Operand, local, literal, Expr, single, both, Stmt, load, store, add, cas, lock, unlock, wait, signal, broadcast, acquire, release, set, assert, if_then, if_else, repeat, leave, Block, nothing, next, Declaration, Thread, Tree}
use Rattle.guest_syntax.specs.declared.limits.TheConstants.{TEXT_BYTES, DEPTH, COUNT, REPEATS}
use Rattle.guest_syntax.specs.declared.tree.{Object.Object, Op.Op}
use Rattle.guest_syntax.specs.declared.token.Keyword.TheVariants as keywords
use Rattle.guest_syntax.specs.declared.token.Symbol.TheVariants as symbols
use Rattle.guest_syntax.specs.declared.tree.Op.TheVariants as ops
use Rattle.guest_syntax.specs.declared.tree.Object.TheVariants as objects

abbrev pub IsOperand : Operand → Form
IsOperand (local n) = IsName n
IsOperand (literal z) = IsLiteral z

abbrev pub IsOp : Op → Form
IsOp ops.Add = IsSymbol symbols.Plus
IsOp ops.Subtract = IsSymbol symbols.Minus
IsOp ops.Multiply = IsSymbol symbols.Times
IsOp ops.Equal = IsSymbol symbols.Equal
IsOp ops.NotEqual = IsSymbol symbols.NotEqual
IsOp ops.Less = IsSymbol symbols.Less
IsOp ops.LessOrEqual = IsSymbol symbols.LessOrEqual
IsOp ops.Greater = IsSymbol symbols.Greater
IsOp ops.GreaterOrEqual = IsSymbol symbols.GreaterOrEqual

abbrev pub IsExpr : Expr → Form
IsExpr (single a) = IsOperand a
IsExpr (both a op b) = IsOperand a then IsOp op then IsOperand b

-- how often a block is repeated
abbrev pub IsTimes : ℕ → Form
IsTimes n ts rest = (0 < n) × IsNumber REPEATS n ts rest

-- with the number of blocks that may still be inside one another
abbrev mutual
  pub IsStatement : Stmt → ℕ → Form
  IsStatement (load r x) room = IsKeyword keywords.Load then IsName r then IsName x then IsEnd
  IsStatement (store x a) room = IsKeyword keywords.Store then IsName x then IsOperand a then IsEnd
  IsStatement (add r x a) room =
      IsKeyword keywords.Add then IsName r then IsName x then IsOperand a then IsEnd
  IsStatement (cas r x a b) room =
      IsKeyword keywords.Cas then IsName r then IsName x then IsOperand a then IsOperand b then
      IsEnd
  IsStatement (lock m) room = IsKeyword keywords.Lock then IsName m then IsEnd
  IsStatement (unlock m) room = IsKeyword keywords.Unlock then IsName m then IsEnd
  IsStatement (wait c m) room = IsKeyword keywords.Wait then IsName c then IsName m then IsEnd
  IsStatement (signal c) room = IsKeyword keywords.Signal then IsName c then IsEnd
  IsStatement (broadcast c) room = IsKeyword keywords.Broadcast then IsName c then IsEnd
  IsStatement (acquire s) room = IsKeyword keywords.Acquire then IsName s then IsEnd
  IsStatement (release s) room = IsKeyword keywords.Release then IsName s then IsEnd
  IsStatement (set r e) room = IsKeyword keywords.Set then IsName r then IsExpr e then IsEnd
  IsStatement (assert e) room = IsKeyword keywords.Assert then IsExpr e then IsEnd
  IsStatement (if_then e b) room = IsKeyword keywords.If then IsExpr e then in_braces
      (AreStatements b) room
  IsStatement (if_else e b c) room = IsKeyword keywords.If then IsExpr e then in_braces
      (AreStatements b) room then IsKeyword keywords.Else then in_braces (AreStatements c) room
  IsStatement (repeat n b) room = IsKeyword keywords.Repeat then IsTimes n then in_braces
      (AreStatements b) room
  IsStatement leave room = IsKeyword keywords.Leave then IsEnd

  pub AreStatements : Block → ℕ → Form
  AreStatements nothing room = λ ts rest. ts ≡ rest
  AreStatements (next at s b) room = placed_at at (IsStatement s room) then AreStatements b room

abbrev pub IsBlock : Block → ℕ → Form
IsBlock b room = in_braces (AreStatements b) room

-- a variable without a literal starts at 0
abbrev pub IsVariable : Name → ℤ → Form
IsVariable n z ts rest =
    ((z ≡ pos 0) × (IsKeyword keywords.Var then IsName n then IsEnd) ts rest)
    ⊎ (IsKeyword keywords.Var then IsName n then IsSymbol symbols.Assign then IsLiteral z then
    IsEnd) ts rest

abbrev pub IsObject : Name → Object → Form
IsObject n (objects.Variable z) = IsVariable n z
IsObject n objects.Mutex = IsKeyword keywords.Mutex then IsName n then IsEnd
IsObject n objects.Condition = IsKeyword keywords.Cond then IsName n then IsEnd
IsObject n (objects.Semaphore k) = IsKeyword keywords.Sem then IsName n then IsSymbol
    symbols.Assign then IsNumber COUNT k then IsEnd

abbrev pub IsDeclaration : Declaration → Form
IsDeclaration d = IsObject d.name d.object

-- a thread's own block, and as many in it as may be
abbrev pub IsThread : Thread → Form
IsThread t = IsKeyword keywords.Thread then IsName t.name then IsBlock t.body (suc DEPTH)

abbrev pub IsTree : Tree → List Token → Type 0
IsTree t ts = (each IsDeclaration t.declarations then each IsThread t.threads) ts []

-- The text spells the tree: its bytes are ASCII and not too many, and its tokens are those of the
-- tree.
pub record Spells (text : List ℕ) (t : Tree) : Type 0 where
  pub tokens : List Token
  pub spelt : Tokens (record { line = 1; col = 1 }) text tokens
  pub ascii : AllByRecursion (λ b. b < 128) text
  pub short : length text ≤ TEXT_BYTES
  pub tree : IsTree t tokens
