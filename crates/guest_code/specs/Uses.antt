-- The uses of names in a text, in text order, and what they say of a name.
use Rattle.std.specs.Prelude.{ℕ, suc, map, List, [], ◌∷◌, ◌++◌, if◌then◌else◌, Bool, true, false, ◌||◌, Option, Some, None}
use Rattle.std.specs.Str.{bytes_eq}
use Rattle.guest_syntax.specs.Tree.{Name, Operand, Expr, Stmt, Block, Declaration, Thread, Tree}
use Rattle.guest_syntax.specs.declared.{place.Pos.Pos, tree.Object.Object}
use Rattle.guest_syntax.specs.declared.tree.Object.TheVariants as objects
use Rattle.guest_syntax.specs.Tree as tree
use Rattle.guest_code.specs.declared.kinds.NameKind.{NameKind}
use Rattle.guest_code.specs.declared.kinds.NameKind.TheVariants as kinds

-- the kind of an object
abbrev pub kind_of : Object → NameKind
kind_of (objects.Variable z) = kinds.Variable
kind_of objects.Mutex = kinds.Mutex
kind_of objects.Condition = kinds.Condition
kind_of (objects.Semaphore n) = kinds.Semaphore

-- whether two kinds are the same
abbrev pub same : NameKind → NameKind → Bool
same kinds.Variable kinds.Variable = true
same kinds.Mutex kinds.Mutex = true
same kinds.Condition kinds.Condition = true
same kinds.Semaphore kinds.Semaphore = true
same kinds.Thread kinds.Thread = true
same _ _ = false

-- what can be refused at one place of the text
pub data Use : Type 0 where
  declares : NameKind → Name → Use  -- a declaration's or a thread's own name
  object : NameKind → Name → Use  -- a name where an object of this kind must be
  local : Name → Use  -- a name where a local must be
  outside : Pos → Use  -- a `leave` with no `repeat` round it

-- the uses in an operand and in an expression
abbrev pub operand_uses : Operand → List Use
operand_uses (tree.local n) = local n ∷ []
operand_uses (tree.literal z) = []

abbrev pub expr_uses : Expr → List Use
expr_uses (tree.single a) = operand_uses a
expr_uses (tree.both a op b) = operand_uses a ++ operand_uses b

-- the uses in a statement at a place and in a block, with whether a `repeat` is round them
abbrev mutual
  pub stmt_uses : Bool → Pos → Stmt → List Use
  stmt_uses inside at (tree.load r x) = local r ∷ object kinds.Variable x ∷ []
  stmt_uses inside at (tree.store x a) = object kinds.Variable x ∷ operand_uses a
  stmt_uses inside at (tree.add r x a) = local r ∷ object kinds.Variable x ∷ operand_uses a
  stmt_uses inside at (tree.cas r x a b) =
      local r ∷ object kinds.Variable x ∷ (operand_uses a ++ operand_uses b)
  stmt_uses inside at (tree.lock m) = object kinds.Mutex m ∷ []
  stmt_uses inside at (tree.unlock m) = object kinds.Mutex m ∷ []
  stmt_uses inside at (tree.wait c m) = object kinds.Condition c ∷ object kinds.Mutex m ∷ []
  stmt_uses inside at (tree.signal c) = object kinds.Condition c ∷ []
  stmt_uses inside at (tree.broadcast c) = object kinds.Condition c ∷ []
  stmt_uses inside at (tree.acquire s) = object kinds.Semaphore s ∷ []
  stmt_uses inside at (tree.release s) = object kinds.Semaphore s ∷ []
  stmt_uses inside at (tree.set r e) = local r ∷ expr_uses e
  stmt_uses inside at (tree.assert e) = expr_uses e
  stmt_uses inside at (tree.if_then e b) = expr_uses e ++ block_uses inside b
  stmt_uses inside at (tree.if_else e b c) = expr_uses e
      ++ (block_uses inside b ++ block_uses inside c)
  stmt_uses inside at (tree.repeat n b) = block_uses true b
  stmt_uses inside at tree.leave = if inside then [] else outside at ∷ []

  pub block_uses : Bool → Block → List Use
  block_uses inside tree.nothing = []
  block_uses inside (tree.next at s b) = stmt_uses inside at s ++ block_uses inside b

-- the uses in a thread, in declarations and in threads
abbrev pub thread_uses : Thread → List Use
thread_uses t = declares kinds.Thread t.name ∷ block_uses false t.body

abbrev pub declarations_uses : List Declaration → List Use
declarations_uses [] = []
declarations_uses (d ∷ ds) = declares (kind_of d.object) d.name ∷ declarations_uses ds

abbrev pub threads_uses : List Thread → List Use
threads_uses [] = []
threads_uses (t ∷ ts) = thread_uses t ++ threads_uses ts

-- all uses in a text
abbrev pub uses : List Declaration → List Thread → List Use
uses ds ts = declarations_uses ds ++ threads_uses ts

-- ---- what a list of uses says

-- the kind that a name is declared as, by the first use that declares it
abbrev pub kind_in : List Use → List ℕ → Option NameKind
kind_in [] name = None
kind_in (declares k n ∷ us) name = if bytes_eq n.text name then Some k else kind_in us name
kind_in (object k n ∷ us) name = kind_in us name
kind_in (local n ∷ us) name = kind_in us name
kind_in (outside at ∷ us) name = kind_in us name

-- how many uses declare a name of a kind
abbrev pub how_many : NameKind → List Use → ℕ
how_many k [] = 0
how_many k (declares j n ∷ us) = if same j k then suc (how_many k us) else how_many k us
how_many k (object j n ∷ us) = how_many k us
how_many k (local n ∷ us) = how_many k us
how_many k (outside at ∷ us) = how_many k us

-- whether a list of names has a name
abbrev pub knows : List (List ℕ) → List ℕ → Bool
knows [] name = false
knows (n ∷ ns) name = bytes_eq n name || knows ns name

-- a name added where it is new
abbrev pub with_name : List (List ℕ) → List ℕ → List (List ℕ)
with_name ns name = if knows ns name then ns else ns ++ name ∷ []

-- the locals of the thread that the uses end in, each once, in the order of their first uses; `ns`
-- are those before
abbrev pub locals_from : List (List ℕ) → List Use → List (List ℕ)
locals_from ns [] = ns
locals_from ns (declares k n ∷ us) = locals_from [] us
locals_from ns (object k n ∷ us) = locals_from ns us
locals_from ns (local n ∷ us) = locals_from (with_name ns n.text) us
locals_from ns (outside at ∷ us) = locals_from ns us

-- the locals of a thread
abbrev pub thread_locals : Thread → List (List ℕ)
thread_locals t = locals_from [] (block_uses false t.body)

-- the locals of each thread of a tree
abbrev pub tree_locals : Tree → List (List (List ℕ))
tree_locals t = map thread_locals t.threads
