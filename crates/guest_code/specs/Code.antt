-- The program that a tree stands for.
use Rattle.std.specs.Prelude.{ℕ, zero, suc, ◌+◌, ◌*◌, List, [], ◌∷◌, ◌++◌, length, map, filter_map, Option, Some, None, if◌then◌else◌}
use Rattle.std.specs.Str.{bytes_eq}
use Rattle.guest_syntax.specs.Tree.{Name, Operand, Expr, Stmt, Block, Declaration, Tree}
use Rattle.guest_syntax.specs.declared.tree.Object.{Object}
use Rattle.guest_syntax.specs.declared.tree.Object.TheVariants as objects
use Rattle.guest_syntax.specs.Tree as tree
use Rattle.guest_code.specs.{Program.{Variable, Semaphore, Thread, Program}, Sizes.block_size}
use Rattle.guest_code.specs.{Uses.{kind_of, same, thread_locals}, declared.kinds.NameKind.NameKind}
use Rattle.guest_code.specs.declared.program.Expression.{Expression, TheVariants.{Single, Both}}
use Rattle.guest_code.specs.declared.program.Instruction.{Instruction}
use Rattle.guest_code.specs.declared.program.Instruction.TheVariants.{Load, Store, Add, Cas, Lock, Unlock, Wait, Signal, Broadcast, Acquire, Release, Set, Assert, SkipIfZero, Skip}
use Rattle.guest_code.specs.declared.program.Value.{Value, TheVariants.{Local, Literal}}
use Rattle.guest_code.specs.declared.kinds.NameKind.TheVariants as kinds

-- ---- numbers of objects and locals

-- the number of an object: how many of its kind are declared before its name
abbrev pub object_index : NameKind → List Declaration → List ℕ → ℕ
object_index k [] name = 0
object_index k (d ∷ ds) name =
    if bytes_eq d.name.text name then 0
    else if same (kind_of d.object) k then suc (object_index k ds name)
    else object_index k ds name

-- the number of a local: how many locals come before it
abbrev pub local_index : List (List ℕ) → List ℕ → ℕ
local_index [] name = 0
local_index (n ∷ ns) name = if bytes_eq n name then 0 else suc (local_index ns name)

-- what the names of a thread stand for
pub record Names : Type 0 where
  pub declarations : List Declaration
  pub locals : List (List ℕ)

-- the numbers of names in a thread
abbrev pub variable_number : Names → Name → ℕ
variable_number ns x = object_index kinds.Variable ns.declarations x.text

abbrev pub mutex_number : Names → Name → ℕ
mutex_number ns m = object_index kinds.Mutex ns.declarations m.text

abbrev pub condition_number : Names → Name → ℕ
condition_number ns c = object_index kinds.Condition ns.declarations c.text

abbrev pub semaphore_number : Names → Name → ℕ
semaphore_number ns s = object_index kinds.Semaphore ns.declarations s.text

abbrev pub local_number : Names → Name → ℕ
local_number ns r = local_index ns.locals r.text

-- ---- code

-- an operand and an expression, with their locals by number
abbrev pub value_of : Names → Operand → Value
value_of ns (tree.local r) = Local (local_number ns r)
value_of ns (tree.literal z) = Literal z

abbrev pub expression_of : Names → Expr → Expression
expression_of ns (tree.single a) = Single (value_of ns a)
expression_of ns (tree.both a op b) = Both (value_of ns a) op (value_of ns b)

-- n copies of a body of `len` instructions, each with its distance to the end of the last
abbrev pub unrolled : (ℕ → List Instruction) → ℕ → ℕ → List Instruction
unrolled body len zero = []
unrolled body len (suc n) = body (n * len) ++ unrolled body len n

-- the code of a statement and of a block; `exit` is its distance to exit: how many instructions
-- come after it, to the end of the last copy of the nearest `repeat` round it
abbrev mutual
  pub stmt_code : Names → Stmt → ℕ → List Instruction
  stmt_code ns (tree.load r x) exit = Load (local_number ns r) (variable_number ns x) ∷ []
  stmt_code ns (tree.store x a) exit = Store (variable_number ns x) (value_of ns a) ∷ []
  stmt_code ns (tree.add r x a) exit =
      Add (local_number ns r) (variable_number ns x) (value_of ns a) ∷ []
  stmt_code ns (tree.cas r x a b) exit =
      Cas (local_number ns r) (variable_number ns x) (value_of ns a) (value_of ns b) ∷ []
  stmt_code ns (tree.lock m) exit = Lock (mutex_number ns m) ∷ []
  stmt_code ns (tree.unlock m) exit = Unlock (mutex_number ns m) ∷ []
  stmt_code ns (tree.wait c m) exit = Wait (condition_number ns c) (mutex_number ns m) ∷ []
  stmt_code ns (tree.signal c) exit = Signal (condition_number ns c) ∷ []
  stmt_code ns (tree.broadcast c) exit = Broadcast (condition_number ns c) ∷ []
  stmt_code ns (tree.acquire s) exit = Acquire (semaphore_number ns s) ∷ []
  stmt_code ns (tree.release s) exit = Release (semaphore_number ns s) ∷ []
  stmt_code ns (tree.set r e) exit = Set (local_number ns r) (expression_of ns e) ∷ []
  stmt_code ns (tree.assert e) exit = Assert (expression_of ns e) ∷ []
  stmt_code ns (tree.if_then e b) exit =
      SkipIfZero (expression_of ns e) (block_size b) ∷ block_code ns b exit
  stmt_code ns (tree.if_else e b c) exit =
      SkipIfZero (expression_of ns e) (block_size b + 1) ∷
      (block_code ns b (exit + 1 + block_size c) ++ (Skip (block_size c) ∷ block_code ns c exit))
  stmt_code ns (tree.repeat n b) exit = unrolled (block_code ns b) (block_size b) n
  stmt_code ns tree.leave exit = Skip exit ∷ []

  pub block_code : Names → Block → ℕ → List Instruction
  block_code ns tree.nothing exit = []
  block_code ns (tree.next at s b) exit =
      stmt_code ns s (exit + block_size b) ++ block_code ns b exit

-- ---- programs

-- what an object of this name is, where it is of the kind
abbrev pub variable_of : List ℕ → Object → Option Variable
variable_of name (objects.Variable z) = Some (record { name = name; opening = z })
variable_of name _ = None

abbrev pub mutex_of : List ℕ → Object → Option (List ℕ)
mutex_of name objects.Mutex = Some name
mutex_of name _ = None

abbrev pub condition_of : List ℕ → Object → Option (List ℕ)
condition_of name objects.Condition = Some name
condition_of name _ = None

abbrev pub semaphore_of : List ℕ → Object → Option Semaphore
semaphore_of name (objects.Semaphore n) = Some (record { name = name; count = n })
semaphore_of name _ = None

-- the objects of a kind, in the order of declaration
abbrev pub objects_by : {X : Type 0} → (List ℕ → Object → Option X) → List Declaration → List X
objects_by of ds = filter_map (λ d. of d.name.text d.object) ds

-- a thread with its code, its names resolved
abbrev pub thread_code : List Declaration → tree.Thread → Thread
thread_code ds t = record {
  name = t.name.text;
  locals = length (thread_locals t);
  code = block_code (record { declarations = ds; locals = thread_locals t }) t.body 0;
}

-- the program of a tree that has no fault
abbrev pub code : Tree → Program
code t = record {
  variables = objects_by variable_of t.declarations;
  mutexes = objects_by mutex_of t.declarations;
  conditions = objects_by condition_of t.declarations;
  semaphores = objects_by semaphore_of t.declarations;
  threads = map (thread_code t.declarations) t.threads;
}
