-- What is warned of.
use Rattle.std.specs.Prelude.{◌≡◌, ℕ, zero, suc, ◌<◌, Bool, true, false, IsTrue, List, [], ◌∷◌, ◌++◌, length, slice_index_or}
use Rattle.std.specs.List.{list_any}
use Rattle.guest_code.specs.Program.{Program, code_of, thread_at, semaphore_at}
use Rattle.guest_code.specs.declared.{limits.TheConstants.LOCALS, program.Instruction.Instruction}
use Rattle.guest_code.specs.declared.program.Instruction.TheVariants.{Lock, Unlock, Wait, Skip}
use Rattle.guest_code.specs.declared.kinds.NameKind.TheVariants as names
use Rattle.check_lint.specs.{Paths.{Comes, IsReached, ActsAt}, Uses.does, declared.uses.Use.Use}
use Rattle.check_lint.specs.declared.warning.Subject.{Subject}
use Rattle.check_lint.specs.declared.warning.Subject.TheVariants.{Local, Instruction as Statement, Object}
use Rattle.check_lint.specs.declared.warning.{Warning.Warning, WarningKind.WarningKind}
use Rattle.check_lint.specs.declared.uses.Use.TheVariants as uses
use Rattle.check_lint.specs.declared.warning.WarningKind.TheVariants as kinds
use Rattle.check_lint.specs.declared.paths.Watch.TheVariants as watches

-- some instruction of thread t makes this use of the local or object of this number
abbrev pub UsesIn : Program → ℕ → Use → ℕ → Type 0
UsesIn p t u n = IsTrue (list_any (does u n) (code_of p t))

-- some instruction of the program does
abbrev pub UsesAnywhere : Program → Use → ℕ → Type 0
UsesAnywhere p u n = (t : ℕ) × (t < length p.threads) × UsesIn p t u n

-- instruction k of thread t
abbrev pub instruction_at : Program → ℕ → ℕ → Instruction
instruction_at p t k = slice_index_or (code_of p t) k (Skip 0)

-- the mutex that an instruction takes, or gives back, is this one
abbrev pub Locks : Instruction → ℕ → Type 0
Locks (Lock n) m = n ≡ m
Locks i m = ⊥

abbrev pub Gives : Instruction → ℕ → Type 0
Gives (Unlock n) m = n ≡ m
Gives (Wait c n) m = n ≡ m
Gives i m = ⊥

-- Instruction k takes a mutex, some path leads to it with the mutex not owned, and after it some path
-- leads to the end with the mutex still owned.
abbrev pub MissingUnlock : List Instruction → ℕ → Type 0
MissingUnlock code k = (m : ℕ) × Locks (slice_index_or code k (Skip 0)) m
    × Comes code (watches.Owns m) 0 false k false
    × Comes code (watches.Owns m) (suc k) true (length code) true

-- Instruction k gives a mutex back, and some path leads to it with the mutex not owned.
abbrev pub MissingLock : List Instruction → ℕ → Type 0
MissingLock code k = (m : ℕ) × Gives (slice_index_or code k (Skip 0)) m
    × Comes code (watches.Owns m) 0 false k false

-- Instruction k takes a mutex, paths lead to it, and after each the mutex is owned already.
abbrev pub LocksAgain : List Instruction → ℕ → Type 0
LocksAgain code k = (m : ℕ) × Locks (slice_index_or code k (Skip 0)) m
    × Comes code (watches.Owns m) 0 false k true × ¬ Comes code (watches.Owns m) 0 false k false

-- from after instruction k some path, on which local r isn't tested after it got a value, leads to a
-- statement that acts, or to the end
abbrev pub IsUnseen : List Instruction → (r k : ℕ) → Type 0
IsUnseen code r k = (j : ℕ) × (b : Bool) × Comes code (watches.Untested r) (suc k) false j b
    × ActsAt code j

-- instruction k waits for a condition, and no local is looked at again whatever comes
abbrev pub is_wait : Instruction → Bool
is_wait (Wait c m) = true
is_wait _ = false

abbrev pub WaitNotLookedAtAgain : List Instruction → ℕ → Type 0
WaitNotLookedAtAgain code k = IsTrue (is_wait (slice_index_or code k (Skip 0)))
    × ((r : ℕ) → r < LOCALS → IsUnseen code r k)

-- an instruction waits for a condition that is waited for with another mutex too
abbrev pub WaitsElsewhere : Program → Instruction → Type 0
WaitsElsewhere p (Wait c m) = UsesAnywhere p (uses.WaitsWithout m) c
WaitsElsewhere p i = ⊥

-- what is warned of is so, by its number
abbrev pub IsSo : Program → WarningKind → ℕ → Type 0
IsSo p (kinds.NeverSet t) r = UsesIn p t uses.Reads r × ¬ UsesIn p t uses.Sets r
IsSo p (kinds.NeverRead t) r = UsesIn p t uses.OnlySets r × ¬ UsesIn p t uses.Reads r
IsSo p kinds.UnusedVariable x = (¬ UsesAnywhere p uses.Loads x) × ¬ UsesAnywhere p uses.Stores x
IsSo p kinds.NeverStored x = UsesAnywhere p uses.Loads x × ¬ UsesAnywhere p uses.Stores x
IsSo p kinds.NeverLoaded x = UsesAnywhere p uses.Stores x × ¬ UsesAnywhere p uses.Loads x
IsSo p kinds.UnusedMutex m = ¬ UsesAnywhere p uses.OfMutex m
IsSo p kinds.UnusedCondition c = ¬ UsesAnywhere p uses.OfCondition c
IsSo p kinds.UnusedSemaphore s = ¬ UsesAnywhere p uses.OfSemaphore s
IsSo p kinds.NeverSignalled c = UsesAnywhere p uses.Waits c × ¬ UsesAnywhere p uses.Signals c
IsSo p kinds.NeverWaitedFor c = UsesAnywhere p uses.Signals c × ¬ UsesAnywhere p uses.Waits c
IsSo p kinds.NeverReleased s = ((semaphore_at p s).count ≡ 0) × UsesAnywhere p uses.Acquires s
    × ¬ UsesAnywhere p uses.Releases s
IsSo p (kinds.Unreached t) k = ¬ IsReached (code_of p t) k
IsSo p (kinds.MissingUnlock t) k = MissingUnlock (code_of p t) k
IsSo p (kinds.MissingLock t) k = MissingLock (code_of p t) k
IsSo p (kinds.LocksAgain t) k = LocksAgain (code_of p t) k
IsSo p (kinds.WaitNotLookedAtAgain t) k = WaitNotLookedAtAgain (code_of p t) k
IsSo p (kinds.WaitsElsewhere t) k = WaitsElsewhere p (instruction_at p t k)

-- what the warnings of a kind are about, and how many of them a program has
abbrev pub subject_of : WarningKind → Subject
subject_of (kinds.NeverSet t) = Local t
subject_of (kinds.NeverRead t) = Local t
subject_of kinds.UnusedVariable = Object names.Variable
subject_of kinds.NeverStored = Object names.Variable
subject_of kinds.NeverLoaded = Object names.Variable
subject_of kinds.UnusedMutex = Object names.Mutex
subject_of kinds.UnusedCondition = Object names.Condition
subject_of kinds.UnusedSemaphore = Object names.Semaphore
subject_of kinds.NeverSignalled = Object names.Condition
subject_of kinds.NeverWaitedFor = Object names.Condition
subject_of kinds.NeverReleased = Object names.Semaphore
subject_of (kinds.Unreached t) = Statement t
subject_of (kinds.MissingUnlock t) = Statement t
subject_of (kinds.MissingLock t) = Statement t
subject_of (kinds.LocksAgain t) = Statement t
subject_of (kinds.WaitNotLookedAtAgain t) = Statement t
subject_of (kinds.WaitsElsewhere t) = Statement t

abbrev pub count_of : Program → Subject → ℕ
count_of p (Local t) = (thread_at p t).locals
count_of p (Statement t) = length (code_of p t)
count_of p (Object names.Variable) = length p.variables
count_of p (Object names.Mutex) = length p.mutexes
count_of p (Object names.Condition) = length p.conditions
count_of p (Object names.Semaphore) = length p.semaphores
count_of p (Object names.Thread) = length p.threads

-- the warnings of a kind, of the numbers below n for which it is so, in order
pub data Chosen (p : Program) (kind : WarningKind) : ℕ → List Warning → Type 0 where
  none : Chosen p kind 0 []
  taken : {n : ℕ} {ws : List Warning} → Chosen p kind n ws → IsSo p kind n
      → Chosen p kind (suc n) (ws ++ record { kind = kind; number = n } ∷ [])
  passed : {n : ℕ} {ws : List Warning} → Chosen p kind n ws → ¬ IsSo p kind n
      → Chosen p kind (suc n) ws

-- the warnings of these kinds, one kind after the other
pub data Listed (p : Program) : List WarningKind → List Warning → Type 0 where
  nothing : Listed p [] []
  more : {ks : List WarningKind} {ws : List Warning} {kind : WarningKind} {vs : List Warning} → Listed p ks ws
      → Chosen p kind (count_of p (subject_of kind)) vs → Listed p (ks ++ kind ∷ []) (ws ++ vs)

-- the kinds of warnings of a thread, and of a program
abbrev pub kinds_of_thread : ℕ → List WarningKind
kinds_of_thread t = kinds.NeverSet t ∷ kinds.NeverRead t ∷ kinds.Unreached t ∷ kinds.MissingUnlock t
    ∷ kinds.MissingLock t ∷ kinds.LocksAgain t ∷ kinds.WaitNotLookedAtAgain t
    ∷ kinds.WaitsElsewhere t ∷ []

abbrev pub kinds_of_threads : ℕ → List WarningKind
kinds_of_threads zero = []
kinds_of_threads (suc n) = kinds_of_threads n ++ kinds_of_thread n

abbrev pub kinds_of_objects : List WarningKind
kinds_of_objects = kinds.UnusedVariable ∷ kinds.NeverStored ∷ kinds.NeverLoaded
    ∷ kinds.UnusedMutex ∷ kinds.UnusedCondition ∷ kinds.UnusedSemaphore
    ∷ kinds.NeverSignalled ∷ kinds.NeverWaitedFor ∷ kinds.NeverReleased ∷ []

abbrev pub kinds_of : Program → List WarningKind
kinds_of p = kinds_of_objects ++ kinds_of_threads (length p.threads)
