-- Who owns a mutex, and since which step.
use Rattle.std.specs.Prelude.{◌≡◌, ◌≢◌, ℕ, ◌<◌, ◌≤◌, List, take, Option, Some, None}
use Rattle.guest_code.specs.Program.{Program}
use Rattle.semantics.specs.Machine.{start, owner_of}
use Rattle.semantics_schedules.specs.Schedules.{state_after}
use Rattle.explain_run.specs.declared.explanation.Holder.{Holder}

-- the owner of a mutex after the first k steps of a schedule
abbrev pub owner_at : Program → List ℕ → ℕ → ℕ → Option ℕ
owner_at p w m k = owner_of (state_after p (start p) (take k w)) m

-- after the first n steps the thread owns the mutex, and it took it by this step: it owns it after
-- each step from there on, and it didn't before
pub record HoldsSince (p : Program) (w : List ℕ) (n m : ℕ) (holder : Holder) : Type 0 where
  pub ran : holder.since < n
  pub since : (k : ℕ) → holder.since < k → k ≤ n → owner_at p w m k ≡ Some holder.thread
  pub before : owner_at p w m holder.since ≢ Some holder.thread

-- the owner of mutex m after the first n steps: nobody, or this thread since this step
pub record IsHeldBy (p : Program) (w : List ℕ) (n m : ℕ) (holder : Option Holder) : Type 0 where
  pub nobody : holder ≡ None → owner_at p w m n ≡ None
  pub somebody : (h : Holder) → holder ≡ Some h → HoldsSince p w n m h
