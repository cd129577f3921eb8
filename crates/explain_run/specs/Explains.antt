-- What is told of a schedule.
use Rattle.std.specs.Prelude.{◌≡◌, ℕ, pos, ◌<◌, ◌≤◌, true, List, length, replicate, take, Option, Some, None, slice_get, slice_index_or}
use Rattle.guest_code.specs.{Program.{Program, code_of}, declared.limits.TheConstants.LOCALS}
use Rattle.semantics.specs.{Ends.{kind_of, stop_of}, Machine.{Snapshot, start, thread_at}}
use Rattle.semantics_schedules.specs.Execution.{ExecutionView}
use Rattle.semantics_schedules.specs.Schedules.{state_after, runs, preemptions, last_of}
use Rattle.replay.specs.Run.{lines_from, number_at, state_before, IsFirstBad}
use Rattle.explain_run.specs.{Blocked.Stands, Holders.IsHeldBy, Settings.settings_in}
use Rattle.explain_run.specs.{Steps.{Tells, lines_of}, declared.explanation.Explanation.Explanation}
use Rattle.explain_run.specs.declared.explanation.{Holder.Holder, Start.Start}
use Rattle.explain_run.specs.declared.{step.Step.Step, thread_state.ThreadState.ThreadState}

-- a schedule that was carried out up to a place
abbrev pub carried_out : Program → List ℕ → ℕ → ExecutionView
carried_out p w k = record {
  state = state_after p (start p) (take k w);
  last = last_of (take k w);
  preemptions = preemptions p (take k w);
}

-- the first n steps run, and they are told each once and in order
pub record TellsSteps (p : Program) (w : List ℕ) (n : ℕ) (steps : List Step) : Type 0 where
  pub ran : runs p (start p) (take n w) ≡ true
  pub lines : lines_of steps ≡ lines_from p (start p) None (take n w)
  pub each : (k : ℕ) (step : Step) → slice_get steps k ≡ Some step →
      Tells p (carried_out p w k) (number_at w k) step

-- the schedule ends after n steps, or its next step is of no thread that is enabled, of this number
abbrev pub StopsAt : Program → List ℕ → ℕ → Option ℕ → Type 0
StopsAt p w n None = length w ≤ n
StopsAt p w n (Some t) = IsFirstBad p w n × (number_at w n ≡ t)

-- thread t before its first step: the locals that it set by itself, where it is, and why it stopped
pub record Begins (p : Program) (t : ℕ) (told : Start) : Type 0 where
  pub assignments : told.assignments.items
      ≡ settings_in (code_of p t) 0 0 (replicate LOCALS (pos 0))
  pub next : told.next ≡ (thread_at (start p) t).pc
  pub stop : told.stop ≡ stop_of (thread_at (start p) t).status

-- each thread before its first step
pub record TellsOpening (p : Program) (told : List Start) : Type 0 where
  pub all : length told ≡ length p.threads
  pub each : (t : ℕ) (begins : Start) → slice_get told t ≡ Some begins → Begins p t begins

-- each thread at the end
pub record TellsThreads (p : Program) (s : Snapshot) (told : List ThreadState) : Type 0 where
  pub all : length told ≡ length p.threads
  pub each : (t : ℕ) (thread_state : ThreadState) → slice_get told t ≡ Some thread_state →
      Stands p s t thread_state

-- each mutex at the end
pub record TellsHolders (p : Program) (w : List ℕ) (n : ℕ) (told : List (Option Holder)) :
    Type 0 where
  pub all : length told ≡ length p.mutexes
  pub each : (m : ℕ) → m < length p.mutexes → IsHeldBy p w n m (slice_index_or told m None)

-- this is told of a schedule of the program
pub record Explains (p : Program) (w : List ℕ) (told : Explanation) : Type 0 where
  pub schedule : told.schedule.items ≡ w
  pub steps : TellsSteps p w (length told.steps.items) told.steps.items
  pub stops : StopsAt p w (length told.steps.items) told.refused
  pub opening : TellsOpening p told.starts.items
  pub threads : TellsThreads p (state_before p w (length told.steps.items)) told.thread_states.items
  pub holders : TellsHolders p w (length told.steps.items) told.holders.items
  pub variables : told.variables.items ≡ (state_before p w (length told.steps.items)).vars
  pub preemptions : told.preemptions ≡ preemptions p (take (length told.steps.items) w)
  pub kind : told.kind ≡ kind_of p (state_before p w (length told.steps.items))
