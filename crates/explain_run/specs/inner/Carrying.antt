-- A schedule that is carried out step by step.
use Rattle.std.specs.Prelude.{◌≡◌, ℕ, ◌<◌, List, length, take, nat_eq, Option, Some, None, slice_index_or, if◌then◌else◌}
use Rattle.guest_code.specs.Program.{Program}
use Rattle.semantics.specs.Machine.{Snapshot, owner_of}
use Rattle.semantics_schedules.specs.Execution.{IsExecutionOf, Reaches}
use Rattle.explain_run.specs.Explains.{TellsSteps, TellsHolders, StopsAt}
use Rattle.explain_run.specs.declared.explanation.{Holder.Holder, Run.Run}

-- the owner since a step or since before
abbrev pub kept_or_new : Holder → ℕ → ℕ → Holder
kept_or_new holder thread at =
    if nat_eq holder.thread thread then holder else record { thread = thread; since = at }

-- the owner of a mutex after the step at a place, where this one was before
abbrev pub holder_after : Option Holder → Option ℕ → ℕ → Option Holder
holder_after holder None at = None
holder_after None (Some thread) at = Some (record { thread = thread; since = at })
holder_after (Some holder) (Some thread) at = Some (kept_or_new holder thread at)

-- the owners after the step at a place that led to this state
pub record AreHoldersAfter (old new : List (Option Holder)) (s : Snapshot) (at : ℕ) : Type 0 where
  pub all : length new ≡ length old
  pub each : (m : ℕ) → m < length old →
      slice_index_or new m None ≡ holder_after (slice_index_or old m None) (owner_of s m) at

-- the schedule is carried out as far as it runs
pub record IsCarriedOut (p : Program) (w : List ℕ) (run : Run) : Type 0 where
  pub of : IsExecutionOf p run.execution
  pub reached : Reaches p (take (length run.steps.items) w) run.execution
  pub steps : TellsSteps p w (length run.steps.items) run.steps.items
  pub holders : TellsHolders p w (length run.steps.items) run.holders.items
  pub stops : StopsAt p w (length run.steps.items) run.refused
