-- A schedule as it is carried out: what is kept of the steps that were taken.
use Rattle.std.specs.Prelude.{◌≡◌, ℕ, ◌+◌, ◌<◌, true, List, length, Option, Some, IfSome}
use Rattle.guest_code.specs.Program.{Program}
use Rattle.semantics.specs.{Machine.{Snapshot, start, step}, Mask.one_if, Reachable.IsOf}
use Rattle.semantics_schedules.specs.Schedules.{state_after, runs, preempts, preemptions, last_of}

-- the state after the steps, the thread of the last one, if there is one, and the preempting
-- switches
pub record ExecutionView : Type 0 where
  pub state : Snapshot
  pub last : Option ℕ
  pub preemptions : ℕ

-- the schedule runs, and leads to this state, with this last thread and this many preemptions
pub record Reaches (p : Program) (w : List ℕ) (e : ExecutionView) : Type 0 where
  pub runs : runs p (start p) w ≡ true
  pub state : e.state ≡ state_after p (start p) w
  pub last : e.last ≡ last_of w
  pub preemptions : e.preemptions ≡ preemptions p w

-- the state is one of the program, and the last thread is one of its threads
pub record IsExecutionOf (p : Program) (e : ExecutionView) : Type 0 where
  pub state : IsOf p e.state
  pub last : IfSome e.last (λ t. t < length p.threads)

-- the execution after a further step of thread t
abbrev pub stepped : Program → ExecutionView → ℕ → ExecutionView
stepped p e t = record {
  state = step p e.state t;
  last = Some t;
  preemptions = e.preemptions + one_if (preempts p e.state e.last t);
}
