-- What contracts see of a program, and when it is well formed.
use Rattle.std.specs.Prelude.{ℕ, ℤ, pos, ◌+◌, ◌<◌, ◌≤◌, List, [], map, length, slice_index_or, All}
use Rattle.std.proofs.Common.{Vec, Global}
use Rattle.guest_code.specs.declared.limits.TheConstants.{THREADS, VARIABLES, OBJECTS, LOCALS, INSTRUCTIONS, COUNT}
use Rattle.guest_code.specs.declared.program.Expression.{Expression, TheVariants.{Single, Both}}
use Rattle.guest_code.specs.declared.program.Instruction.{Instruction}
use Rattle.guest_code.specs.declared.program.Instruction.TheVariants.{Load, Store, Add, Cas, Lock, Unlock, Wait, Signal, Broadcast, Acquire, Release, Set, Assert, SkipIfZero, Skip}
use Rattle.guest_code.specs.declared.program.Value.{Value, TheVariants.{Local, Literal}}
use Rattle.guest_code.specs.declared.program.Variable as code-variable
use Rattle.guest_code.specs.declared.program.Semaphore as code-semaphore
use Rattle.guest_code.specs.declared.program.Thread as code-thread

-- a variable's name and opening value
pub record Variable : Type 0 where
  pub name : List ℕ
  pub opening : ℤ

-- a semaphore's name and opening count
pub record Semaphore : Type 0 where
  pub name : List ℕ
  pub count : ℕ

-- a thread's name, how many locals it has, and its code
pub record Thread : Type 0 where
  pub name : List ℕ
  pub locals : ℕ
  pub code : List Instruction

-- the objects of each kind in the order of declaration, and the threads
pub record Program : Type 0 where
  pub variables : List Variable
  pub mutexes : List (List ℕ)
  pub conditions : List (List ℕ)
  pub semaphores : List Semaphore
  pub threads : List Thread

-- what the code's values stand for

abbrev pub variable_view : code-variable.Variable → Variable
variable_view v = record { name = v.name.items; opening = v.opening }

abbrev pub semaphore_view : code-semaphore.Semaphore → Semaphore
semaphore_view s = record { name = s.name.items; count = s.count }

abbrev pub thread_view : code-thread.Thread → Thread
thread_view t = record { name = t.name.items; locals = t.locals; code = t.code.items }

-- names, and the names of a thread's locals
abbrev pub names_view : List (Vec ℕ Global) → List (List ℕ)
names_view ns = map (λ n. n.items) ns

abbrev pub locals_view : Vec (Vec ℕ Global) Global → List (List ℕ)
locals_view v = names_view v.items

-- variables, semaphores and threads
abbrev pub variables_view : Vec code-variable.Variable Global → List Variable
variables_view v = map variable_view v.items

abbrev pub semaphores_view : Vec code-semaphore.Semaphore Global → List Semaphore
semaphores_view v = map semaphore_view v.items

abbrev pub threads_view : Vec code-thread.Thread Global → List Thread
threads_view v = map thread_view v.items

-- the program of these parts
abbrev pub program_view : Vec code-variable.Variable Global
    → (mutexes conditions : Vec (Vec ℕ Global) Global) → Vec code-semaphore.Semaphore Global
    → Vec code-thread.Thread Global → Program
program_view variables mutexes conditions semaphores threads = record {
  variables = variables_view variables;
  mutexes = names_view mutexes.items;
  conditions = names_view conditions.items;
  semaphores = semaphores_view semaphores;
  threads = threads_view threads;
}

-- a thread that is not there
abbrev pub no_thread : Thread
no_thread = record { name = []; locals = 0; code = [] }

-- a variable and a semaphore that are not there
abbrev pub no_variable : Variable
no_variable = record { name = []; opening = pos 0 }

abbrev pub no_semaphore : Semaphore
no_semaphore = record { name = []; count = 0 }

-- the objects and threads of these numbers
abbrev pub variable_at : Program → ℕ → Variable
variable_at p x = slice_index_or p.variables x no_variable

abbrev pub semaphore_at : Program → ℕ → Semaphore
semaphore_at p s = slice_index_or p.semaphores s no_semaphore

abbrev pub thread_at : Program → ℕ → Thread
thread_at p t = slice_index_or p.threads t no_thread

-- the code of a thread; none for a thread that is not there
abbrev pub code_of : Program → ℕ → List Instruction
code_of p t = (slice_index_or p.threads t no_thread).code

-- numbers of objects and locals are in range

abbrev pub IsValidValue : Value → Type 0
IsValidValue (Local r) = r < LOCALS
IsValidValue (Literal n) = Unit {0}

abbrev pub IsValidExpression : Expression → Type 0
IsValidExpression (Single a) = IsValidValue a
IsValidExpression (Both a op b) = IsValidValue a × IsValidValue b

abbrev pub IsValid : Program → Instruction → Type 0
IsValid p (Load r x) = (r < LOCALS) × (x < length p.variables)
IsValid p (Store x a) = (x < length p.variables) × IsValidValue a
IsValid p (Add r x a) = (r < LOCALS) × (x < length p.variables) × IsValidValue a
IsValid p (Cas r x a b) = (r < LOCALS) × (x < length p.variables) × IsValidValue a × IsValidValue b
IsValid p (Lock m) = m < length p.mutexes
IsValid p (Unlock m) = m < length p.mutexes
IsValid p (Wait c m) = (c < length p.conditions) × (m < length p.mutexes)
IsValid p (Signal c) = c < length p.conditions
IsValid p (Broadcast c) = c < length p.conditions
IsValid p (Acquire s) = s < length p.semaphores
IsValid p (Release s) = s < length p.semaphores
IsValid p (Set r e) = (r < LOCALS) × IsValidExpression e
IsValid p (Assert e) = IsValidExpression e
IsValid p (SkipIfZero e n) = IsValidExpression e
IsValid p (Skip n) = Unit {0}

-- a code of this program that is not too long and whose numbers are in range
pub record IsValidCode (p : Program) (code : List Instruction) : Type 0 where
  pub short : length code ≤ INSTRUCTIONS
  pub fine : All (IsValid p) code

-- each local that an instruction names is below this number

abbrev pub IsValueBelow : ℕ → Value → Type 0
IsValueBelow n (Local r) = r < n
IsValueBelow n (Literal z) = Unit {0}

abbrev pub IsExpressionBelow : ℕ → Expression → Type 0
IsExpressionBelow n (Single a) = IsValueBelow n a
IsExpressionBelow n (Both a op b) = IsValueBelow n a × IsValueBelow n b

abbrev pub LocalsBelow : ℕ → Instruction → Type 0
LocalsBelow n (Load r x) = r < n
LocalsBelow n (Store x a) = IsValueBelow n a
LocalsBelow n (Add r x a) = (r < n) × IsValueBelow n a
LocalsBelow n (Cas r x a b) = (r < n) × IsValueBelow n a × IsValueBelow n b
LocalsBelow n (Lock m) = Unit {0}
LocalsBelow n (Unlock m) = Unit {0}
LocalsBelow n (Wait c m) = Unit {0}
LocalsBelow n (Signal c) = Unit {0}
LocalsBelow n (Broadcast c) = Unit {0}
LocalsBelow n (Acquire s) = Unit {0}
LocalsBelow n (Release s) = Unit {0}
LocalsBelow n (Set r e) = (r < n) × IsExpressionBelow n e
LocalsBelow n (Assert e) = IsExpressionBelow n e
LocalsBelow n (SkipIfZero e k) = IsExpressionBelow n e
LocalsBelow n (Skip k) = Unit {0}

-- how many of the next instructions an instruction may pass over
abbrev pub skip_of : Instruction → ℕ
skip_of (Load r x) = 0
skip_of (Store x a) = 0
skip_of (Add r x a) = 0
skip_of (Cas r x a b) = 0
skip_of (Lock m) = 0
skip_of (Unlock m) = 0
skip_of (Wait c m) = 0
skip_of (Signal c) = 0
skip_of (Broadcast c) = 0
skip_of (Acquire s) = 0
skip_of (Release s) = 0
skip_of (Set r e) = 0
skip_of (Assert e) = 0
skip_of (SkipIfZero e k) = k
skip_of (Skip k) = k

-- each jump goes to an instruction of the code, or to its end
abbrev pub JumpsWithin : List Instruction → Type 0
JumpsWithin code = (k : ℕ) → k < length code
    → k + 1 + skip_of (slice_index_or code k (Skip 0)) ≤ length code

-- the limits are kept, every number of an object or a local is in range, and each jump is within
-- its code
pub record IsWellFormed (p : Program) : Type 0 where
  pub some_thread : 0 < length p.threads
  pub threads : length p.threads ≤ THREADS
  pub variables : length p.variables ≤ VARIABLES
  pub mutexes : length p.mutexes ≤ OBJECTS
  pub conditions : length p.conditions ≤ OBJECTS
  pub semaphores : length p.semaphores ≤ OBJECTS
  pub counts : All (λ s. s.count ≤ COUNT) p.semaphores
  pub codes : All (λ t. IsValidCode p t.code) p.threads
  pub locals : All (λ t. t.locals ≤ LOCALS) p.threads
  pub own_locals : All (λ t. All (LocalsBelow t.locals) t.code) p.threads
  pub jumps : All (λ t. JumpsWithin t.code) p.threads
