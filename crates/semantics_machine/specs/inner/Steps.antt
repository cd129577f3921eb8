-- A step, from the thread that may take it to what it made of the state.
use Rattle.std.specs.Prelude.{◌≡◌, ◌≢◌, ℕ, ◌+◌, ◌<◌, ℤ, true, false, List, length, take, slice_index_or, slice_set, All, Option, Some}
use Rattle.semantics.specs.Machine.{Snapshot, thread_at, queue_of, next_of, is_enabled, can_do, action_of, step, resumed, run_from, with_status, wake, missing_thread}
use Rattle.semantics.specs.{Mask.has, Reachable.IsOf, Waiters.{In, Once}}
use Rattle.semantics.specs.declared.state.Status.{Status, TheVariants.{Running, Waiting}}
use Rattle.semantics.specs.declared.state.Thread.{Thread}
use Rattle.guest_code.specs.Program.{Program, code_of, IsValid, LocalsBelow}
use Rattle.guest_code.specs.declared.program.Instruction.{Instruction}
use Rattle.semantics_machine.specs.Refinement.{IsControl, AreQueues, HasObjects}
use Rattle.semantics_machine.specs.{declared.control.Control.Control, inner.LocalRuns.narrow}
use Rattle.semantics_machine.specs.inner.Parts.{IsControlBut, IsLeaving}

-- the cells are those of these variables, and of these queues after them
pub record AreShared (lengths : List ℕ) (cells vars : List ℤ) (queues : List (List ℕ))
    : Type 0 where
  pub variables : take (length vars) cells ≡ vars
  pub are_queues : AreQueues (length vars) lengths cells queues
  pub size : length cells ≡ length vars + length queues

abbrev pub HasShared : Control → List ℤ → Snapshot → Type 0
HasShared c cells s = AreShared c.lengths cells s.vars s.queues

-- thread t may take a step; its locals are these
pub record IsReadyIn (p : Program) (s : Snapshot) (t : ℕ) (c : Control) (cells mine : List ℤ)
    : Type 0 where
  pub of : IsOf p s
  pub control : IsControl p c s
  pub shared : HasShared c cells s
  pub own : mine ≡ take (length mine) (thread_at s t).locals
  pub enabled : is_enabled p s t ≡ true
  pub below : All (LocalsBelow (length mine)) (code_of p t)

-- thread t is at this instruction and may take its step; its locals are these
pub record IsPoised (p : Program) (s : Snapshot) (t : ℕ) (i : Instruction) (c : Control)
    (cells mine : List ℤ) : Type 0 where
  pub of : IsOf p s
  pub thread : t < length s.threads
  pub control : IsLeaving p c s t (action_of i)
  pub woken : has c.woken t ≡ false
  pub shared : HasShared c cells s
  pub own : mine ≡ take (length mine) (thread_at s t).locals
  pub status : (thread_at s t).status ≡ Running
  pub next : next_of p s t ≡ action_of i
  pub allowed : can_do s (action_of i) ≡ true
  pub fine : IsValid p i
  pub below : LocalsBelow (length mine) i

-- the thread after its step: it runs on, or it has got another status
abbrev pub settled : List Instruction → Status → Thread → Thread
settled code Running th = resumed code th
settled code status th = with_status th status

-- all that a step of thread t does, but for what the thread does itself after it
pub record IsPerformed (p : Program) (s : Snapshot) (t : ℕ) (c : Control) (cells mine : List ℤ)
    (status : Status) : Type 0 where
  pub after : Snapshot
  pub th : Thread
  pub control : IsControlBut p c after t
  pub shared : HasShared c cells after
  pub own : mine ≡ take (length mine) th.locals
  pub pc : th.pc ≡ (thread_at s t).pc
  pub threads : length after.threads ≡ length s.threads
  pub others : (u : ℕ) → u ≢ t → (thread_at after u).locals ≡ (thread_at s u).locals
  pub step : step p s t
      ≡ record after { threads = slice_set after.threads t (settled (code_of p t) status th) }

-- where a thread goes on that got this status by the step of the instruction here
abbrev pub place_after : Status → ℕ → ℕ
place_after Running pc = pc + 1
place_after _ pc = pc

-- the thread that goes on here, after what it does by itself
abbrev pub going_on : List Instruction → Status → ℕ → List ℤ → Thread
going_on code Running pc locals =
    run_from code (record { pc = pc; locals = locals; status = Running })
going_on code status pc locals = record { pc = pc; locals = locals; status = status }

-- thread t took its step at s, and goes on at this place, with these locals
pub record IsPassed (p : Program) (s : Snapshot) (t : ℕ) (c : Control) (cells mine : List ℤ)
    (place : ℕ) (status : Status) : Type 0 where
  pub before : List ℤ
  pub performed : IsPerformed p s t c cells before status
  pub many : length mine ≡ length before
  pub goes_on : going_on (code_of p t) status place mine
      ≡ narrow (length before) (settled (code_of p t) status performed.th)

-- the objects let the step of this instruction be taken
abbrev pub Faces : Control → Option Instruction → Type 0
Faces c o = (i : Instruction) → o ≡ Some i → (s : Snapshot) → HasObjects c s
    → can_do s (action_of i) ≡ true

-- a step of thread t led from s to this
pub record IsStepped (p : Program) (s : Snapshot) (t : ℕ) (c : Control) (cells mine : List ℤ)
    : Type 0 where
  pub control : IsControl p c (step p s t)
  pub shared : HasShared c cells (step p s t)
  pub own : mine ≡ take (length mine) (thread_at (step p s t) t).locals
  pub others : (u : ℕ) → u ≢ t → (thread_at (step p s t) u).locals ≡ (thread_at s u).locals

-- some of those whom a broadcast for condition n calls were called, and the rest are still in the
-- queue
pub record IsCalling (p : Program) (s : Snapshot) (t n : ℕ) (c : Control) (cells : List ℤ)
    : Type 0 where
  pub rest : List ℕ
  pub threads : List Thread
  pub control : IsControlBut p c
      (record s { queues = slice_set s.queues n rest; threads = threads }) t
  pub shared : HasShared c cells (record s { queues = slice_set s.queues n rest })
  pub same : wake n rest threads ≡ wake n (queue_of s n) s.threads
  pub waits : (u : ℕ) → In rest u
      → (slice_index_or threads u missing_thread).status ≡ Waiting n
  pub once : Once rest
  pub many : length threads ≡ length s.threads
  pub locals : (u : ℕ) → (slice_index_or threads u missing_thread).locals
      ≡ (thread_at s u).locals
  pub me : slice_index_or threads t missing_thread ≡ thread_at s t
