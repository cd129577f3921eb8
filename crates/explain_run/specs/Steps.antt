-- What is told of a step.
use Rattle.std.specs.Prelude.{◌≡◌, ℕ, List, [], ◌∷◌, length, filter, map, Some}
use Rattle.guest_code.specs.Program.{Program, code_of}
use Rattle.semantics.specs.Machine.{Snapshot, thread_at, next_of, owner_of, queue_of, owns, threads_to_wake, step}
use Rattle.semantics.specs.{Work.up_from, declared.state.Action.Action}
use Rattle.semantics.specs.declared.state.Action.TheVariants.{OnVariable, OnMutex, Wait as Waits, OnCondition, OnSemaphore}
use Rattle.semantics_schedules.specs.Execution.{ExecutionView, IsExecutionOf, stepped}
use Rattle.replay.specs.{Run.line_at, Trace.IsValidLine, declared.run.Line.Line}
use Rattle.explain_run.specs.{Objects.{object_of, reading_of}, Settings.settings_by}
use Rattle.explain_run.specs.declared.step.Step.{Step}

-- the lines of steps
abbrev pub lines_of : List Step → List Line
lines_of steps = map (λ step. step.line) steps

-- the mutexes that thread t owns, rising
abbrev pub held_in : Snapshot → ℕ → List ℕ
held_in s t = filter (λ m. owns t (owner_of s m)) (up_from 0 (length s.owners))

-- the threads that an action wakes, the one that waited longest first
abbrev pub woken_in : Snapshot → Action → List ℕ
woken_in s (OnVariable x d) = []
woken_in s (OnMutex m d) = []
woken_in s (Waits c m) = []
woken_in s (OnCondition c d) = threads_to_wake d (queue_of s c)
woken_in s (OnSemaphore k d) = []

-- this is told of a step of thread t: it is the line of the step; before it the thread was at this
-- instruction and owned these mutexes, and after it the thread is at that one; the object of its
-- action was so before it and is so after it; it set these locals, and woke these threads
pub record Tells (p : Program) (e : ExecutionView) (t : ℕ) (told : Step) : Type 0 where
  pub action : Action
  pub next_action : next_of p e.state t ≡ Some action
  pub line : line_at p e.state e.last t (next_of p e.state t) ≡ told.line ∷ []
  pub instruction : told.instruction ≡ (thread_at e.state t).pc
  pub next : told.next ≡ (thread_at (step p e.state t) t).pc
  pub object : told.object ≡ object_of action
  pub old : told.old ≡ reading_of e.state (object_of action)
  pub new : told.new ≡ reading_of (step p e.state t) (object_of action)
  pub assignments : told.assignments.items ≡ settings_by (code_of p t) told.instruction told.next
      (thread_at e.state t).locals told.line.act
  pub woken : told.woken.items ≡ woken_in e.state action
  pub held : told.held.items ≡ held_in e.state t

-- a step of thread t led from the old execution to the new one, and this is told of it
pub record IsTakenStep (p : Program) (old new : ExecutionView) (t : ℕ) (told : Step) : Type 0 where
  pub tells : Tells p old t told
  pub valid : IsValidLine p told.line
  pub value : new ≡ stepped p old t
  pub of : IsExecutionOf p new
