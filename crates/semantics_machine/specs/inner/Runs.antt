-- Runs: steps of one thread, with none of another between them.
use Rattle.std.specs.Prelude.{◌≡◌, ◌≢◌, ℕ, ◌+◌, ◌<◌, ◌≤◌, ℤ, Bool, true, false, List, length, take, replicate, All}
use Rattle.guest_code.specs.Program.{Program, code_of, LocalsBelow}
use Rattle.semantics.specs.Machine.{Snapshot, thread_at, is_enabled}
use Rattle.semantics.specs.{Mask.{has, HasEnabled}, Reachable.IsOf, declared.mask.Mask.Mask}
use Rattle.semantics.specs.declared.state.Status.TheVariants.{Running}
use Rattle.semantics_schedules.specs.Schedules.{state_after}
use Rattle.semantics_machine.specs.{Refinement.IsControl, declared.control.Control.Control}
use Rattle.semantics_machine.specs.declared.control.steps.MovingThread.{MovingThread}
use Rattle.semantics_machine.specs.{declared.machine.Run.Run, inner.Steps.{HasShared, IsPassed}}

-- the state after n steps of thread t
abbrev pub run_to : Program → Snapshot → ℕ → ℕ → Snapshot
run_to p s t n = state_after p s (replicate n t)

-- unless the thread is heedless, those that it runs among are itself and of the others these
abbrev pub RunsAmong : MovingThread → Mask → Type 0
RunsAmong m on = m.heedless ≡ false
    → (has m.among m.thread ≡ true) × ((u : ℕ) → u ≢ m.thread → has m.among u ≡ has on u)

-- thread t took its steps from s on, and is in the midst of the last one
pub record IsGoing (p : Program) (s : Snapshot) (t : ℕ) (c : Control) (cells mine : List ℤ)
    (m : MovingThread) : Type 0 where
  pub done : ℕ
  pub steps : m.steps ≡ done + 1
  pub of : IsOf p (run_to p s t done)
  pub enabled : (k : ℕ) → k < m.steps → is_enabled p (run_to p s t k) t ≡ true
  pub passed : IsPassed p (run_to p s t done) t c cells mine m.place m.status
  pub others : (u : ℕ) → u ≢ t → (thread_at (run_to p s t done) u).locals ≡ (thread_at s u).locals
  pub between : m.heedless ≡ false → (k : ℕ) → 1 ≤ k → k < m.steps
      → HasEnabled m.among p (run_to p s t k)
  pub few : m.steps ≤ m.place + 1
  pub fewer : m.status ≡ Running → m.steps ≤ m.place
  pub within : m.place ≤ length (code_of p t)
  pub below : All (LocalsBelow (length mine)) (code_of p t)

-- a run of thread t led from s to this. Between its steps t was enabled, and, unless it was
-- heedless, the threads that it names
pub record IsRunTo (p : Program) (s : Snapshot) (t : ℕ) (heedless : Bool) (r : Run) (c : Control)
    (cells mine : List ℤ) : Type 0 where
  pub of : IsOf p (run_to p s t r.steps)
  pub control : IsControl p c (run_to p s t r.steps)
  pub shared : HasShared c cells (run_to p s t r.steps)
  pub own : mine ≡ take (length mine) (thread_at (run_to p s t r.steps) t).locals
  pub others : (u : ℕ) → u ≢ t
      → (thread_at (run_to p s t r.steps) u).locals ≡ (thread_at s u).locals
  pub enabled : (k : ℕ) → k < r.steps → is_enabled p (run_to p s t k) t ≡ true
  pub between : heedless ≡ false → (k : ℕ) → 1 ≤ k → k < r.steps
      → HasEnabled r.among p (run_to p s t k)
