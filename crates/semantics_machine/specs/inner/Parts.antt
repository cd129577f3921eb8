-- Parts of a step: a thread leaves its place, objects change, and it is put where it is then.
use Rattle.std.specs.Prelude.{◌≡◌, ◌≢◌, ℕ, Bool, true, false, not, List, slice_get, slice_index_or, Option}
use Rattle.semantics.specs.Ends.{is_stopped, is_ended}
use Rattle.semantics.specs.Machine.{Snapshot, thread_at, can_do, action_at}
use Rattle.semantics.specs.Mask.{has, no_threads}
use Rattle.semantics.specs.declared.{local.Landing.Landing, mask.Mask.Mask, state.Action.Action}
use Rattle.semantics.specs.declared.state.MutexAction.{MutexAction}
use Rattle.semantics.specs.declared.state.MutexAction.TheVariants.{Lock as Locks, Unlock as Unlocks, Retake as Retakes}
use Rattle.semantics.specs.declared.state.{Status.Status, Thread.Thread}
use Rattle.guest_code.specs.{Program.Program, declared.program.Instruction.Instruction}
use Rattle.semantics_machine.specs.Refinement.{is_woken, takes_mutex, takes_semaphore, at_mutex, at_semaphore, held, HasObjects, HasThreadAt}
use Rattle.semantics_machine.specs.declared.control.Control.{Control}

-- thread t is at no mutex and no semaphore
pub record IsNowhere (all_mutexes all_semaphores : List Mask) (t : ℕ) : Type 0 where
  pub mutexes : (m : ℕ) → has (slice_index_or all_mutexes m no_threads) t ≡ false
  pub semaphores : (k : ℕ) → has (slice_index_or all_semaphores k no_threads) t ≡ false

abbrev pub IsApart : Control → ℕ → Type 0
IsApart c t = IsNowhere c.mutexes c.semaphores t

-- and has not ended, stopped or been called
pub record IsUnmarked (all_unended all_stopped all_woken : Mask)
    (all_mutexes all_semaphores : List Mask)
    (t : ℕ) : Type 0 where
  pub unended : has all_unended t ≡ true
  pub stopped : has all_stopped t ≡ false
  pub woken : has all_woken t ≡ false
  pub apart : IsNowhere all_mutexes all_semaphores t

abbrev pub IsIdle : Control → ℕ → Type 0
IsIdle c t = IsUnmarked c.unended c.stopped c.woken c.mutexes c.semaphores t

-- all is that of the state but for thread t, which is idle
pub record IsControlBut (p : Program) (c : Control) (s : Snapshot) (t : ℕ) : Type 0 where
  pub objects : HasObjects c s
  pub threads : (u : ℕ) → u ≢ t → HasThreadAt p c s u (thread_at s u)
  pub idle : IsIdle c t

-- all is that of the state but for thread t, which is about to take this step: it is at no mutex
-- and no semaphore but what the step takes
pub record IsLeaving (p : Program) (c : Control) (s : Snapshot) (t : ℕ) (next : Option Action)
    : Type 0 where
  pub objects : HasObjects c s
  pub threads : (u : ℕ) → u ≢ t → HasThreadAt p c s u (thread_at s u)
  pub unended : has c.unended t ≡ true
  pub stopped : has c.stopped t ≡ false
  pub mutexes : (m : ℕ) → takes_mutex m next ≡ false → has (at_mutex c m) t ≡ false
  pub semaphores : (k : ℕ) → takes_semaphore k next ≡ false → has (at_semaphore c k) t ≡ false

-- but for thread t, the second has the places and the sets of the first
pub record LeavesOthers (t : ℕ) (c d : Control) : Type 0 where
  pub places : (u : ℕ) → u ≢ t → slice_index_or d.places u 0 ≡ slice_index_or c.places u 0
  pub unended : (u : ℕ) → u ≢ t → has d.unended u ≡ has c.unended u
  pub stopped : (u : ℕ) → u ≢ t → has d.stopped u ≡ has c.stopped u
  pub woken : (u : ℕ) → u ≢ t → has d.woken u ≡ has c.woken u
  pub enabled : (u : ℕ) → u ≢ t → has d.enabled u ≡ has c.enabled u
  pub mutexes : (m u : ℕ) → u ≢ t → has (at_mutex d m) u ≡ has (at_mutex c m) u
  pub semaphores : (k u : ℕ) → u ≢ t → has (at_semaphore d k) u ≡ has (at_semaphore c k) u

-- only thread t's marks are new: those of a thread of this status
pub record IsMarked (c d : Control) (t : ℕ) (status : Status) : Type 0 where
  pub objects : (s : Snapshot) → HasObjects c s → HasObjects d s
  pub others : LeavesOthers t c d
  pub unended : has d.unended t ≡ not (is_ended status)
  pub stopped : has d.stopped t ≡ is_stopped status
  pub woken : has d.woken t ≡ is_woken status
  pub apart : IsApart d t

-- only the sets of those at mutexes and semaphores are new: thread t is where it takes this step;
-- `on` says whether it can
pub record Stands (c d : Control) (s : Snapshot) (t : ℕ) (next : Option Action) (on : Bool)
    : Type 0 where
  pub objects : HasObjects d s
  pub others : LeavesOthers t c d
  pub unended : d.unended ≡ c.unended
  pub stopped : d.stopped ≡ c.stopped
  pub woken : d.woken ≡ c.woken
  pub mutexes : (m : ℕ) → has (at_mutex d m) t ≡ takes_mutex m next
  pub semaphores : (k : ℕ) → has (at_semaphore d k) t ≡ takes_semaphore k next
  pub free : on ≡ can_do (held s) next

-- thread t, which is th now, is at its place and in its sets; all else is as it was
pub record Lands (p : Program) (c d : Control) (s : Snapshot) (t : ℕ) (th : Thread) : Type 0 where
  pub objects : HasObjects d s
  pub others : LeavesOthers t c d
  pub own : HasThreadAt p d s t th

-- the mutex is taken
abbrev pub IsTaking : MutexAction → Type 0
IsTaking Locks = Unit {0}
IsTaking Retakes = Unit {0}
IsTaking Unlocks = ⊥

-- the step takes nothing, and can be done or not
abbrev pub IsPlain : Option Action → Bool → Type 0
IsPlain a on = ((s : Snapshot) → on ≡ can_do (held s) a) × ((m : ℕ) → false ≡ takes_mutex m a)
    × ((k : ℕ) → false ≡ takes_semaphore k a)

-- where a thread is said to be free, its next step takes nothing, and can be done
abbrev pub IsFreeIn : List Instruction → Landing → Type 0
IsFreeIn code at = at.free ≡ true → IsPlain (action_at at.status (slice_get code at.pc)) true
