-- Words for what one step does to the thread that takes it, and to others.
use Rattle.std.specs.Prelude.{◌≡◌, ◌≢◌, ◌<◌, ◌⊎◌, ℕ, ℤ, pos, length, Some, slice_index_or}
use Rattle.guest_code.specs.{Program.{Program, code_of}, declared.program.Value.Value}
use Rattle.semantics.specs.FinalKinds.{HasStopped}
use Rattle.semantics.specs.Machine.{Snapshot, next_of, thread_at, step, resumed, value_of_operand}
use Rattle.semantics.specs.declared.state.{Action.Action, Status.Status}
use Rattle.semantics.specs.declared.state.Status.TheVariants.{Waiting, Woken, Ended, Stopped}
use Rattle.semantics.specs.declared.state.{Stop.TheVariants.{NotHeld, SemFull}, Thread.Thread}

-- thread t is about to do this
abbrev pub IsAboutTo : Program → Snapshot → ℕ → Action → Type 0
IsAboutTo p s t a = next_of p s t ≡ Some a

-- the value that an operand of thread t's next step has
abbrev pub operand_of : Snapshot → ℕ → Value → ℤ
operand_of s t a = value_of_operand (thread_at s t).locals a

-- the value of a local of a thread
abbrev pub local_of : Thread → ℕ → ℤ
local_of th r = slice_index_or th.locals r (pos 0)

-- after its step thread t runs on, from where it was and with these locals
abbrev pub RunsOnAs : Program → Snapshot → ℕ → Thread → Type 0
RunsOnAs p s t th = thread_at (step p s t) t ≡ resumed (code_of p t) th

-- after its step thread t runs on, with its locals as they were
abbrev pub RunsOn : Program → Snapshot → ℕ → Type 0
RunsOn p s t = RunsOnAs p s t (thread_at s t)

-- the step of thread t puts a value into its local r, and the thread runs on with that
pub record PutsInto (p : Program) (s : Snapshot) (t r : ℕ) (v : ℤ) : Type 0 where
  pub thread : Thread
  pub runs_on : RunsOnAs p s t thread
  pub local : r < length (thread_at s t).locals → local_of thread r ≡ v
  pub others : (q : ℕ) → q ≢ r → local_of thread q ≡ local_of (thread_at s t) q
  pub pc : thread.pc ≡ (thread_at s t).pc

-- the step of thread t stops it, since it doesn't own the mutex
abbrev pub StopsNotHeld : Program → Snapshot → ℕ → Type 0
StopsNotHeld p s t = (thread_at (step p s t) t).status ≡ Stopped NotHeld

-- the step of thread t stops it, since the semaphore's count can't rise
abbrev pub StopsFull : Program → Snapshot → ℕ → Type 0
StopsFull p s t = (thread_at (step p s t) t).status ≡ Stopped SemFull

-- the thread stopped or ended: it takes no further step
abbrev pub IsOver : Thread → Type 0
IsOver th = HasStopped th ⊎ (th.status ≡ Ended)

-- the one status is of a thread that waits, the other of one that was woken
abbrev pub WasWoken : Status → Status → Type 0
WasWoken old new = (c : ℕ) × (old ≡ Waiting c) × (new ≡ Woken)

-- one thread before and after a step of another: it may have been woken, else it is as it was
pub record IsLeft (old new : Thread) : Type 0 where
  pub pc : new.pc ≡ old.pc
  pub locals : new.locals ≡ old.locals
  pub status : (new.status ≡ old.status) ⊎ WasWoken old.status new.status
