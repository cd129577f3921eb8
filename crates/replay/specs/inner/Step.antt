-- One step of a replay: what private contracts say of it.
use Rattle.std.specs.Prelude.{◌≡◌, ℕ, ◌<◌, true, false, [], ◌∷◌, length}
use Rattle.guest_code.specs.Program.{Program}
use Rattle.semantics.specs.Machine.{Snapshot, next_of, is_enabled}
use Rattle.semantics_schedules.specs.Execution.{ExecutionView, IsExecutionOf, stepped}
use Rattle.replay.specs.{Run.line_at, Trace.IsValidLine, declared.error.ReplayError.ReplayError}
use Rattle.replay.specs.declared.error.ReplayError.TheVariants.{NoSuchThread, NotEnabled, OutOfMemory}
use Rattle.replay.specs.declared.run.Line.{Line}

-- a step of thread t, which was enabled, led from the old execution to the new one, and this line
-- tells it
pub record IsStepOf (p : Program) (old new : ExecutionView) (t : ℕ) (line : Line) : Type 0 where
  pub enabled : is_enabled p old.state t ≡ true
  pub told : line_at p old.state old.last t (next_of p old.state t) ≡ line ∷ []
  pub valid : IsValidLine p line
  pub value : new ≡ stepped p old t
  pub of : IsExecutionOf p new

-- why thread t can't take the step at this place; that never is for memory
abbrev pub RefusalMeans : Program → Snapshot → ℕ → ℕ → ReplayError → Type 0
RefusalMeans p s place t (NoSuchThread k) =
    (k ≡ place) × (is_enabled p s t ≡ false) × ¬ (t < length p.threads)
RefusalMeans p s place t (NotEnabled k) =
    (k ≡ place) × (is_enabled p s t ≡ false) × (t < length p.threads)
RefusalMeans p s place t OutOfMemory = ⊥
