-- What the code of the lowering adds, of names and trees in memory.
use Rattle.std.specs.Prelude.{◌≡◌, ℕ, List, ◌++◌, map, Option, Result, OnOk}
use Rattle.std.proofs.Common.{Vec, Global}
use Rattle.guest_syntax.specs.Tree.{Stmt, Block, declaration_view, thread_view, block_view}
use Rattle.guest_syntax.specs.declared.tree.{Object.Object, Placed.Placed}
use Rattle.guest_syntax.specs.declared.tree.Declaration as code-declaration
use Rattle.guest_syntax.specs.declared.tree.Thread as code-thread
use Rattle.guest_code.specs.Code.{Names, stmt_code, block_code, unrolled, objects_by, thread_code}
use Rattle.guest_code.specs.{Program.{Thread, names_view}, Sizes.block_size}
use Rattle.guest_code.specs.declared.program.Instruction.{Instruction}
use Rattle.guest_code.specs.declared.names.Names as code-names
use Rattle.guest_code.specs.declared.emit.Context as code-context

-- what names in memory stand for
abbrev pub names_of : code-names.Names → Names
names_of ns = record {
  declarations = map declaration_view ns.declarations.now;
  locals =
      names_view ns.locals.now;
}

-- a code that gained these instructions, unless the call failed
abbrev pub Adds : {X E : Type 0} → Result X E → (old new : Vec Instruction Global)
    → List Instruction → Type 0
Adds result old new is = OnOk result (new.items ≡ old.items ++ is)

-- the code of a statement and of a block in this context
abbrev pub stmt_code_in : code-context.Context → Stmt → List Instruction
stmt_code_in context s = stmt_code (names_of context.names) s context.distance_to_exit

abbrev pub block_code_in : code-context.Context → Block → List Instruction
block_code_in context b = block_code (names_of context.names) b context.distance_to_exit

-- how many instructions a list of statements comes to
abbrev pub size_of : List Placed → ℕ
size_of body = block_size (block_view body)

-- the code of statements, as many times over as is said
abbrev pub copies_of : code-names.Names → List Placed → ℕ → List Instruction
copies_of names body times = unrolled (block_code (names_of names) (block_view body))
    (size_of body) times

-- the objects of a kind among declarations in memory
abbrev pub objects_in : {X : Type 0} → (List ℕ → Object → Option X)
    → List code-declaration.Declaration → List X
objects_in of ds = objects_by of (map declaration_view ds)

-- the code of a thread, and of each thread of a list
abbrev pub thread_code_in : List code-declaration.Declaration → code-thread.Thread → Thread
thread_code_in ds t = thread_code (map declaration_view ds) (thread_view t)

abbrev pub threads_code_in : List code-declaration.Declaration → List code-thread.Thread
    → List Thread
threads_code_in ds ts = map (thread_code (map declaration_view ds)) (map thread_view ts)
