-- Why a thread can't take a step: the definition of an enabled thread turned round.
use Rattle.std.specs.Prelude.{◌≡◌, ◌≢◌, ◌⊎◌, ℕ, nat_eq, Bool, true, false, Option, Some, None}
use Rattle.guest_code.specs.{Program.Program, declared.program.Instruction.Instruction}
use Rattle.guest_code.specs.declared.program.Instruction.TheVariants as instructions
use Rattle.semantics.specs.Machine.{Snapshot, thread_at, next_of, owner_of, count_of, is_enabled}
use Rattle.semantics.specs.declared.state.Action.TheVariants.{OnMutex, OnSemaphore}
use Rattle.semantics.specs.declared.state.MutexAction.TheVariants.{Lock as Locks, Retake as Retakes}
use Rattle.semantics.specs.declared.state.SemaphoreAction.TheVariants.{Acquire as Acquires}
use Rattle.semantics.specs.declared.state.Status.TheVariants.{Waiting}
use Rattle.explain_run.specs.declared.object.Object.{Object}
use Rattle.explain_run.specs.declared.object.Object.TheVariants.{Mutex, Condition, Semaphore}
use Rattle.explain_run.specs.declared.thread_state.Reason.{Reason}
use Rattle.explain_run.specs.declared.thread_state.Reason.TheVariants.{Lock, Retake, Acquire, Signal}
use Rattle.explain_run.specs.declared.thread_state.ThreadState.{ThreadState}

-- the mutex that a thread waits for by this reason
abbrev pub mutex_of : Reason → Option ℕ
mutex_of (Lock m) = Some m
mutex_of (Retake m) = Some m
mutex_of (Acquire k) = None
mutex_of (Signal c) = None

-- the object that it waits for
abbrev pub waited_for : Reason → Object
waited_for (Lock m) = Mutex m
waited_for (Retake m) = Mutex m
waited_for (Acquire k) = Semaphore k
waited_for (Signal c) = Condition c

-- an instruction gives mutex m back
abbrev pub gives_back : ℕ → Instruction → Bool
gives_back m (instructions.Unlock n) = nat_eq n m
gives_back m (instructions.Wait c n) = nat_eq n m
gives_back m i = false

-- it wakes threads that wait for condition c, or raises the count of semaphore k
abbrev pub wakes : ℕ → Instruction → Bool
wakes c (instructions.Signal d) = nat_eq d c
wakes c (instructions.Broadcast d) = nat_eq d c
wakes c i = false

abbrev pub raises : ℕ → Instruction → Bool
raises k (instructions.Release l) = nat_eq l k
raises k i = false

-- it could end a wait for this reason
abbrev pub could_end : Reason → Instruction → Bool
could_end (Lock m) i = gives_back m i
could_end (Retake m) i = gives_back m i
could_end (Signal c) i = wakes c i
could_end (Acquire k) i = raises k i

-- thread t can't take a step for this reason: it is to lock a mutex, or to take one again, that a
-- thread owns, or to acquire a semaphore whose count is 0, or it waits for a condition
abbrev pub IsBlockedBy : Program → Snapshot → ℕ → Reason → Type 0
IsBlockedBy p s t (Lock m) = (next_of p s t ≡ Some (OnMutex m Locks)) × (owner_of s m ≢ None)
IsBlockedBy p s t (Retake m) = (next_of p s t ≡ Some (OnMutex m Retakes)) × (owner_of s m ≢ None)
IsBlockedBy p s t (Acquire k) =
    (next_of p s t ≡ Some (OnSemaphore k Acquires)) × (count_of s k ≡ 0)
IsBlockedBy p s t (Signal c) = (thread_at s t).status ≡ Waiting c

-- thread t is not blocked: it is enabled, or it is about to do nothing and waits for no condition
abbrev pub IsUnblocked : Program → Snapshot → ℕ → Type 0
IsUnblocked p s t = (is_enabled p s t ≡ true)
    ⊎ ((next_of p s t ≡ None) × ((c : ℕ) → (thread_at s t).status ≢ Waiting c))

-- what is told of thread t in a state
pub record Stands (p : Program) (s : Snapshot) (t : ℕ) (told : ThreadState) : Type 0 where
  pub status : told.status ≡ (thread_at s t).status
  pub instruction : told.instruction ≡ (thread_at s t).pc
  pub locals : told.locals ≡ (thread_at s t).locals
  pub blocked : (r : Reason) → told.reason ≡ Some r → IsBlockedBy p s t r
  pub unblocked : told.reason ≡ None → IsUnblocked p s t
  pub enabled : told.enabled ≡ is_enabled p s t

-- what a thread of which this is told waits for; nothing where nothing is told
abbrev pub reason_of : Option ThreadState → Option Reason
reason_of None = None
reason_of (Some told) = told.reason
