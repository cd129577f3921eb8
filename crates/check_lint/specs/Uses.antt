-- What an instruction does with locals and with objects.
use Rattle.std.specs.Prelude.{ℕ, Bool, false, ◌||◌, ◌&&◌, not, nat_eq, Option, Some, None}
use Rattle.std.specs.Option.{option_or}
use Rattle.guest_code.specs.declared.program.Expression.{Expression, TheVariants.{Single, Both}}
use Rattle.guest_code.specs.declared.program.Instruction.{Instruction}
use Rattle.guest_code.specs.declared.program.Instruction.TheVariants.{Load, Store, Add, Cas, Lock, Unlock, Wait, Signal, Broadcast, Acquire, Release, Set, Assert, SkipIfZero}
use Rattle.guest_code.specs.declared.program.Value.{Value, TheVariants.{Local, Literal}}
use Rattle.check_lint.specs.declared.uses.Use.{Use}
use Rattle.check_lint.specs.declared.uses.Use.TheVariants as uses

-- a value and an expression read a local
abbrev pub value_reads : ℕ → Value → Bool
value_reads r (Local q) = nat_eq q r
value_reads r (Literal n) = false

abbrev pub expression_reads : ℕ → Expression → Bool
expression_reads r (Single a) = value_reads r a
expression_reads r (Both a op b) = value_reads r a || value_reads r b

-- an instruction reads a local
abbrev pub reads : ℕ → Instruction → Bool
reads r (Store x a) = value_reads r a
reads r (Add q x a) = value_reads r a
reads r (Cas q x a b) = value_reads r a || value_reads r b
reads r (Set q e) = expression_reads r e
reads r (Assert e) = expression_reads r e
reads r (SkipIfZero e n) = expression_reads r e
reads r _ = false

-- the local that it gives a value
abbrev pub local_set : Instruction → Option ℕ
local_set (Load q x) = Some q
local_set (Add q x a) = Some q
local_set (Cas q x a b) = Some q
local_set (Set q e) = Some q
local_set _ = None

-- the variable that it reads, may write, or does one of the two with
abbrev pub variable_read : Instruction → Option ℕ
variable_read (Load q x) = Some x
variable_read (Add q x a) = Some x
variable_read (Cas q x a b) = Some x
variable_read _ = None

abbrev pub variable_written : Instruction → Option ℕ
variable_written (Store x a) = Some x
variable_written (Add q x a) = Some x
variable_written (Cas q x a b) = Some x
variable_written _ = None

abbrev pub variable_used : Instruction → Option ℕ
variable_used i = option_or (variable_read i) (variable_written i)

-- it is there, and is this number
abbrev pub is : ℕ → Option ℕ → Bool
is n None = false
is n (Some k) = nat_eq k n

-- it gives a local a value
abbrev pub sets : ℕ → Instruction → Bool
sets r i = is r (local_set i)

-- it does so for that alone: an `add` or a `cas` has another effect, and must name a local
abbrev pub fills : ℕ → Instruction → Bool
fills r (Load q x) = nat_eq q r
fills r (Set q e) = nat_eq q r
fills r _ = false

-- it reads a variable, or writes it
abbrev pub loads : ℕ → Instruction → Bool
loads x i = is x (variable_read i)

abbrev pub stores : ℕ → Instruction → Bool
stores x i = is x (variable_written i)

-- it names a mutex, a condition or a semaphore
abbrev pub names_mutex : ℕ → Instruction → Bool
names_mutex m (Lock n) = nat_eq n m
names_mutex m (Unlock n) = nat_eq n m
names_mutex m (Wait c n) = nat_eq n m
names_mutex m _ = false

abbrev pub names_condition : ℕ → Instruction → Bool
names_condition c (Wait d m) = nat_eq d c
names_condition c (Signal d) = nat_eq d c
names_condition c (Broadcast d) = nat_eq d c
names_condition c _ = false

abbrev pub names_semaphore : ℕ → Instruction → Bool
names_semaphore s (Acquire k) = nat_eq k s
names_semaphore s (Release k) = nat_eq k s
names_semaphore s _ = false

-- it waits for a condition, with whichever mutex or with another than this one, or wakes who waits
abbrev pub waits : ℕ → Instruction → Bool
waits c (Wait d m) = nat_eq d c
waits c _ = false

abbrev pub waits_without : ℕ → ℕ → Instruction → Bool
waits_without m c (Wait d n) = nat_eq d c && not (nat_eq n m)
waits_without m c _ = false

abbrev pub signals : ℕ → Instruction → Bool
signals c (Signal d) = nat_eq d c
signals c (Broadcast d) = nat_eq d c
signals c _ = false

-- it lowers a semaphore, or raises it
abbrev pub acquires : ℕ → Instruction → Bool
acquires s (Acquire k) = nat_eq k s
acquires s _ = false

abbrev pub releases : ℕ → Instruction → Bool
releases s (Release k) = nat_eq k s
releases s _ = false

-- it makes this use of the local or the object of this number
abbrev pub does : Use → ℕ → Instruction → Bool
does uses.Reads n i = reads n i
does uses.Sets n i = sets n i
does uses.OnlySets n i = fills n i
does uses.Loads n i = loads n i
does uses.Stores n i = stores n i
does uses.OfMutex n i = names_mutex n i
does uses.OfCondition n i = names_condition n i
does uses.OfSemaphore n i = names_semaphore n i
does uses.Waits n i = waits n i
does (uses.WaitsWithout m) n i = waits_without m n i
does uses.Signals n i = signals n i
does uses.Acquires n i = acquires n i
does uses.Releases n i = releases n i
