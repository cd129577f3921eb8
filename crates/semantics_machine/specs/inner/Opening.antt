-- The opening: thread after thread is put where it is.
use Rattle.std.specs.Prelude.{◌≡◌, ℕ, ◌+◌, ◌*◌, ◌<◌, ◌≤◌, length, take, drop, All}
use Rattle.guest_code.specs.Program.{Program, LocalsBelow}
use Rattle.semantics.specs.Machine.{Snapshot, thread_at}
use Rattle.semantics_machine.specs.Refinement.{HasObjects, HasEachWithSome, HasThreadAt, HaveSameCode, locals_at}
use Rattle.semantics_machine.specs.{Touches.AreTouches, declared.control.Control.Control}
use Rattle.semantics_machine.specs.{declared.machine.Machine.Machine, inner.Parts.IsIdle}

-- the first k threads are those of the state, and the rest are idle
pub record IsOpenedTo (p : Program) (s : Snapshot) (k : ℕ) (c : Control) : Type 0 where
  pub objects : HasObjects c s
  pub before : (t : ℕ) → t < k → HasThreadAt p c s t (thread_at s t)
  pub past : (t : ℕ) → length s.threads ≤ t → HasThreadAt p c s t (thread_at s t)
  pub idle : (t : ℕ) → k ≤ t → t < length s.threads → IsIdle c t

-- and their locals are there
pub record IsOpening (p : Program) (s : Snapshot) (k : ℕ) (m : Machine) : Type 0 where
  pub control : IsOpenedTo p s k m.control
  pub fixed : m.shape.fixed ≡ length s.vars
  pub variables : take m.shape.fixed m.values.items ≡ s.vars
  pub locals : (t : ℕ) → t < k
      → locals_at m.shape.width (drop (m.shape.fixed + length s.queues) m.values.items) t
      ≡ take m.shape.width (thread_at s t).locals
  pub size : length m.values.items ≡ m.shape.fixed + length s.queues + k * m.shape.width
  pub wide : All (λ th. All (LocalsBelow m.shape.width) th.code) p.threads
  pub touches : AreTouches p m.shape.touches
  pub same_code : HaveSameCode p m.shape.same_code
  pub with_equal : HasEachWithSome m.shape.with_equal m.shape.same_code
