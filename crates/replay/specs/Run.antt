-- The run of a schedule, and where a schedule fails to run.
use Rattle.std.specs.Prelude.{◌≡◌, ℕ, ℤ, ◌<◌, true, false, List, [], ◌∷◌, ◌++◌, length, filter, take, Option, Some, None, if◌then◌else◌, slice_index_or}
use Rattle.guest_code.specs.{Program.Program, declared.program.Value.Value}
use Rattle.semantics.specs.Ends.{is_stopped, stop_of, kind_of}
use Rattle.semantics.specs.Machine.{Snapshot, thread_at, next_of, value_of, value_of_operand, is_expected, var_after, is_enabled, step, start}
use Rattle.semantics.specs.{Work.up_from, declared.state.Action.Action}
use Rattle.semantics.specs.declared.state.Action.TheVariants.{OnVariable, OnMutex, Wait as Waits, OnCondition, OnSemaphore}
use Rattle.semantics.specs.declared.state.ConditionAction.TheVariants.{Signal as Signals, Broadcast as Broadcasts}
use Rattle.semantics.specs.declared.state.MutexAction.TheVariants.{Lock as Locks, Unlock as Unlocks, Retake as Retakes}
use Rattle.semantics.specs.declared.state.SemaphoreAction.TheVariants.{Acquire as Acquires, Release as Releases}
use Rattle.semantics.specs.declared.state.VariableAction.TheVariants.{Load as Loads, Store as Stores, Add as Adds, Cas as Swaps}
use Rattle.semantics.specs.declared.view.Kind.{Kind}
use Rattle.semantics_schedules.specs.Schedules.{state_after, runs, preempts, preemptions}
use Rattle.replay.specs.declared.error.ReplayError.{ReplayError}
use Rattle.replay.specs.declared.error.ReplayError.TheVariants.{NoSuchThread, NotEnabled, OutOfMemory}
use Rattle.replay.specs.declared.run.Act.{Act}
use Rattle.replay.specs.declared.run.Act.TheVariants.{Load, Store, Add, Cas, Lock, Unlock, Wait, Retake, Signal, Broadcast, Acquire, Release}
use Rattle.replay.specs.declared.run.Line.{Line}

-- the threads that stopped at the start, a line for each step, the preempting switches,
-- the values of the variables reached, and how the schedule ends if it is complete
pub record Run : Type 0 where
  pub stopped : List ℕ
  pub lines : List Line
  pub preemptions : ℕ
  pub vars : List ℤ
  pub kind : Option Kind

-- the value that a `cas` stores, where it hits
abbrev pub stored_by : List ℤ → Value → Value → ℤ → Option ℤ
stored_by locals expected new old =
    if is_expected locals expected old then Some (value_of_operand locals new) else None

-- what thread t does in a state by its action: a load is told with the value read, a store with the
-- value stored, an `add` with both, and a `cas` with the value read, and where it hits with the one
-- stored
abbrev pub act_of : Snapshot → ℕ → Action → Act
act_of s t (OnVariable x (Loads r)) = Load x (value_of s x)
act_of s t (OnVariable x (Stores a)) = Store x (value_of_operand (thread_at s t).locals a)
act_of s t (OnVariable x (Adds r a)) =
    Add x (value_of s x) (var_after (Adds r a) (thread_at s t).locals (value_of s x))
act_of s t (OnVariable x (Swaps r a b)) =
    Cas x (value_of s x) (stored_by (thread_at s t).locals a b (value_of s x))
act_of s t (OnMutex m Locks) = Lock m
act_of s t (OnMutex m Unlocks) = Unlock m
act_of s t (OnMutex m Retakes) = Retake m
act_of s t (Waits c m) = Wait c m
act_of s t (OnCondition c Signals) = Signal c
act_of s t (OnCondition c Broadcasts) = Broadcast c
act_of s t (OnSemaphore k Acquires) = Acquire k
act_of s t (OnSemaphore k Releases) = Release k

-- the line of a step of thread t by this action, after a step of the one thread or of none
abbrev pub line_of : Program → Snapshot → Option ℕ → ℕ → Action → Line
line_of p s last t action = record {
  thread = t;
  act = act_of s t action;
  preempting = preempts p s last t;
  stop = stop_of (thread_at (step p s t) t).status;
}

-- one line for a thread that is about to do something, else none
abbrev pub line_at : Program → Snapshot → Option ℕ → ℕ → Option Action → List Line
line_at p s last t (Some action) = line_of p s last t action ∷ []
line_at p s last t None = []

-- the lines of a schedule that goes on from a state, after a step of the one thread or of none
abbrev pub lines_from : Program → Snapshot → Option ℕ → List ℕ → List Line
lines_from p s last [] = []
lines_from p s last (t ∷ w) =
    line_at p s last t (next_of p s t) ++ lines_from p (step p s t) (Some t) w

-- the threads that have stopped, rising
abbrev pub stopped_in : Snapshot → List ℕ
stopped_in s = filter (λ t. is_stopped (thread_at s t).status) (up_from 0 (length s.threads))

-- the run of a schedule
abbrev pub run_of : Program → List ℕ → Run
run_of p w = record {
  stopped = stopped_in (start p);
  lines = lines_from p (start p) None w;
  preemptions = preemptions p w;
  vars = (state_after p (start p) w).vars;
  kind = kind_of p (state_after p (start p) w);
}

-- the schedule runs, and this is its run
pub record IsRunOf (p : Program) (w : List ℕ) (r : Run) : Type 0 where
  pub legal : runs p (start p) w ≡ true
  pub same : r ≡ run_of p w

-- the thread number at a place of a schedule
abbrev pub number_at : List ℕ → ℕ → ℕ
number_at w k = slice_index_or w k 0

-- the state before the step at a place
abbrev pub state_before : Program → List ℕ → ℕ → Snapshot
state_before p w k = state_after p (start p) (take k w)

-- the schedule runs up to this place, and its step there is of no thread that is enabled
pub record IsFirstBad (p : Program) (w : List ℕ) (k : ℕ) : Type 0 where
  pub inside : k < length w
  pub legal : runs p (start p) (take k w) ≡ true
  pub bad : is_enabled p (state_before p w k) (number_at w k) ≡ false

-- what an error says of the schedule: its first bad place, and whether there is such a thread
abbrev pub ReplayErrorMeans : Program → List ℕ → ReplayError → Type 0
ReplayErrorMeans p w (NoSuchThread k) = IsFirstBad p w k × ¬ (number_at w k < length p.threads)
ReplayErrorMeans p w (NotEnabled k) = IsFirstBad p w k × (number_at w k < length p.threads)
ReplayErrorMeans p w OutOfMemory = Unit {0}
