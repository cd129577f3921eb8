-- What a machine shows: a state of a program.
use Rattle.std.specs.Prelude.{◌≡◌, ◌↔◌, ℕ, zero, suc, ◌+◌, ◌*◌, ◌^◌, ◌/◌, ◌%◌, ◌<◌, ℤ, pos, Bool, true, false, not, nat_eq, List, [], ◌∷◌, length, take, drop, slice_get, slice_index_or, All, Option, Some, None, if◌then◌else◌}
use Rattle.std.specs.Int.{cast_unsigned, w64}
use Rattle.guest_code.specs.Program.{Program, code_of, LocalsBelow}
use Rattle.guest_code.specs.declared.limits.TheConstants.{THREADS}
use Rattle.semantics.specs.Ends.{is_stopped, is_ended}
use Rattle.semantics.specs.Machine.{Snapshot, thread_at, can_do, action_at, initial_thread}
use Rattle.semantics.specs.{Mask.{has, no_threads}, Reachable.IsOf, declared.mask.Mask.Mask}
use Rattle.semantics.specs.declared.state.Action.{Action}
use Rattle.semantics.specs.declared.state.Action.TheVariants.{OnVariable, OnMutex, Wait as Waits, OnCondition, OnSemaphore}
use Rattle.semantics.specs.declared.state.MutexAction.TheVariants.{Lock as Locks, Unlock as Unlocks, Retake as Retakes}
use Rattle.semantics.specs.declared.state.SemaphoreAction.TheVariants.{Acquire as Acquires, Release as Releases}
use Rattle.semantics.specs.declared.state.Status.{Status}
use Rattle.semantics.specs.declared.state.Status.TheVariants.{Running, Waiting, Woken, Ended, Stopped}
use Rattle.semantics.specs.declared.state.Thread.{Thread}
use Rattle.semantics_machine.specs.{Touches.AreTouches, declared.control.Control.Control}
use Rattle.semantics_machine.specs.declared.{control.TheConstants.FREE, machine.Machine.Machine}
use Rattle.semantics_machine.specs.declared.machine.Shape.{Shape}

-- the step takes mutex m
abbrev pub takes_mutex : ℕ → Option Action → Bool
takes_mutex m None = false
takes_mutex m (Some (OnVariable x d)) = false
takes_mutex m (Some (OnMutex n Locks)) = nat_eq n m
takes_mutex m (Some (OnMutex n Retakes)) = nat_eq n m
takes_mutex m (Some (OnMutex n Unlocks)) = false
takes_mutex m (Some (Waits c n)) = false
takes_mutex m (Some (OnCondition c d)) = false
takes_mutex m (Some (OnSemaphore k d)) = false

-- the step acquires semaphore k
abbrev pub takes_semaphore : ℕ → Option Action → Bool
takes_semaphore k None = false
takes_semaphore k (Some (OnVariable x d)) = false
takes_semaphore k (Some (OnMutex m d)) = false
takes_semaphore k (Some (Waits c m)) = false
takes_semaphore k (Some (OnCondition c d)) = false
takes_semaphore k (Some (OnSemaphore j Acquires)) = nat_eq j k
takes_semaphore k (Some (OnSemaphore j Releases)) = false

-- a thread of this status was called, and has to take its mutex again
abbrev pub is_woken : Status → Bool
is_woken Woken = true
is_woken Running = false
is_woken (Waiting c) = false
is_woken Ended = false
is_woken (Stopped why) = false

-- the threads at a mutex, and at a semaphore
abbrev pub at_mutex : Control → ℕ → Mask
at_mutex c m = slice_index_or c.mutexes m no_threads

abbrev pub at_semaphore : Control → ℕ → Mask
at_semaphore c k = slice_index_or c.semaphores k no_threads

-- the thread of this number, or none where it stands for none
abbrev pub thread_or_none : ℕ → Option ℕ
thread_or_none n = if nat_eq n FREE then None else Some n

-- the owners and the counts are those of the state, and the queues are as long as its own
pub record AreObjects (owners counts lengths : List ℕ)
    (state_owners : List (Option ℕ)) (state_counts : List ℕ) (state_queues : List (List ℕ))
    : Type 0 where
  pub owners_are : (m : ℕ) → thread_or_none (slice_index_or owners m FREE)
      ≡ slice_index_or state_owners m None
  pub counts_are : (k : ℕ) → slice_index_or counts k 0 ≡ slice_index_or state_counts k 0
  pub lengths_are : (n : ℕ) → slice_index_or lengths n 0
      ≡ length (slice_index_or state_queues n [])

abbrev pub HasObjects : Control → Snapshot → Type 0
HasObjects c s = AreObjects c.owners c.counts c.lengths s.owners s.counts s.queues

-- the threads of a queue of this length that is kept in 64 bits: four for each, the last lowest
abbrev pub queued_in : ℕ → ℕ → List ℕ
queued_in zero bits = []
queued_in (suc n) bits = bits / 2 ^ (4 * n) % 16 ∷ queued_in n bits

abbrev pub queued : ℕ → ℤ → List ℕ
queued n cell = queued_in n (cast_unsigned w64 cell)

-- the queues are those of the state, one in each cell from this place on
abbrev pub AreQueues : ℕ → List ℕ → List ℤ → List (List ℕ) → Type 0
AreQueues first lengths cells state_queues = (n : ℕ) → n < length state_queues
    → queued (slice_index_or lengths n 0) (slice_index_or cells (first + n) (pos 0))
    ≡ slice_index_or state_queues n []

-- a state of which only the objects are looked at that can hold a thread up
abbrev pub held : Snapshot → Snapshot
held s = record { vars = []; owners = s.owners; queues = []; counts = s.counts; threads = [] }

-- what a thread at this place of its code does next
abbrev pub next_at : Program → ℕ → Thread → Option Action
next_at p t th = action_at th.status (slice_get (code_of p t) th.pc)

-- thread t, which is th, is at its place, and in the sets where it belongs: its next step is this
-- one, and `on` says whether it can take it
pub record IsThread (places : List ℕ) (all_unended all_stopped all_woken all_enabled : Mask)
    (all_mutexes all_semaphores : List Mask) (t : ℕ) (th : Thread) (next : Option Action)
    (on : Bool)
    : Type 0 where
  pub place : slice_index_or places t 0 ≡ th.pc
  pub unended : has all_unended t ≡ not (is_ended th.status)
  pub stopped : has all_stopped t ≡ is_stopped th.status
  pub woken : has all_woken t ≡ is_woken th.status
  pub enabled : has all_enabled t ≡ on
  pub mutexes : (m : ℕ) → has (slice_index_or all_mutexes m no_threads) t ≡ takes_mutex m next
  pub semaphores : (k : ℕ) → has (slice_index_or all_semaphores k no_threads) t
      ≡ takes_semaphore k next

abbrev pub HasThreadAt : Program → Control → Snapshot → ℕ → Thread → Type 0
HasThreadAt p c s t th = IsThread c.places c.unended c.stopped c.woken c.enabled c.mutexes
    c.semaphores t th (next_at p t th) (can_do (held s) (next_at p t th))

-- all but the values is that of the state
pub record IsControl (p : Program) (c : Control) (s : Snapshot) : Type 0 where
  pub objects : HasObjects c s
  pub threads : (t : ℕ) → HasThreadAt p c s t (thread_at s t)

-- thread t's part of a list that has `width` numbers for each thread
abbrev pub locals_at : ℕ → List ℤ → ℕ → List ℤ
locals_at width locals t = take width (drop (t * width) locals)

-- the values are those of the state: first those of the variables, then the queues, and then for
-- each thread its first locals, as many as any thread's code speaks of; the others are as they
-- began
pub record IsState (p : Program) (fixed width : ℕ) (c : Control) (values : List ℤ) (s : Snapshot)
    : Type 0 where
  pub of : IsOf p s
  pub control : IsControl p c s
  pub fixed_are : fixed ≡ length s.vars
  pub variables : take fixed values ≡ s.vars
  pub queues : AreQueues fixed c.lengths values s.queues
  pub locals : (t : ℕ) → t < length s.threads
      → locals_at width (drop (fixed + length s.queues) values) t
      ≡ take width (thread_at s t).locals
  pub unused : (t : ℕ) → t < length s.threads
      → drop width (thread_at s t).locals ≡ drop width initial_thread.locals
  pub size : length values ≡ fixed + length s.queues + length s.threads * width
  pub wide : All (λ th. All (LocalsBelow width) th.code) p.threads

-- these are the threads of lower numbers that have the code of thread t
abbrev pub HasSameCode : Program → ℕ → Mask → Type 0
HasSameCode p t lower = (u : ℕ)
    → (has lower u ≡ true) ↔ ((u < t) × (code_of p u ≡ code_of p t))

-- and so for each thread
abbrev pub HaveSameCode : Program → List Mask → Type 0
HaveSameCode p sets = (t : ℕ) → t < length p.threads
    → HasSameCode p t (slice_index_or sets t no_threads)

-- a thread that isn't in the set has an empty set of its own
abbrev pub HasEachWithSome : Mask → List Mask → Type 0
HasEachWithSome some sets = (t u : ℕ) → t < THREADS → has some t ≡ false → u < THREADS
    → has (slice_index_or sets t no_threads) u ≡ false

-- and the shape is the program's
pub record IsShown (p : Program) (shape : Shape) (c : Control) (values : List ℤ) (s : Snapshot)
    : Type 0 where
  pub state : IsState p shape.fixed shape.width c values s
  pub touches : AreTouches p shape.touches
  pub same_code : HaveSameCode p shape.same_code
  pub with_equal : HasEachWithSome shape.with_equal shape.same_code

-- the machine shows the state
abbrev pub Shows : Program → Machine → Snapshot → Type 0
Shows p m s = IsShown p m.shape m.control m.values.items s
