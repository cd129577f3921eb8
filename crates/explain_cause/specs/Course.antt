-- What happens in a run, one thing after the other.
use Rattle.std.specs.Prelude.{ℕ, zero, suc, ◌+◌, nat_eq, ℤ, pos, List, [], ◌∷◌, ◌++◌, length, drop, replicate, slice_get, slice_index_or, slice_set, Option, Some, None, if◌then◌else◌}
use Rattle.std.specs.List.{list_any}
use Rattle.guest_code.specs.Program.{Program, code_of}
use Rattle.guest_code.specs.declared.limits.TheConstants.{LOCALS, THREADS}
use Rattle.guest_code.specs.declared.program.Instruction.{Instruction}
use Rattle.guest_code.specs.declared.program.Instruction.TheVariants.{Load, Store, Add, Cas, Lock, Unlock, Wait, Signal, Broadcast, Acquire, Release, Set, Assert, SkipIfZero, Skip}
use Rattle.semantics.specs.{Ends.is_stopped, Expressions.{value_of_expression, is_zero}}
use Rattle.semantics.specs.declared.state.Stop.{Stop, TheVariants.Assert as FailedAssert}
use Rattle.explain_run.specs.{Blocked.mutex_of, declared.explanation.Explanation.Explanation}
use Rattle.explain_run.specs.declared.{explanation.Holder.Holder, step.Step.Step}
use Rattle.explain_run.specs.declared.thread_state.{Reason.Reason, ThreadState.ThreadState}
use Rattle.explain_cause.specs.Events.{value_by}
use Rattle.explain_cause.specs.declared.event.Deed.TheVariants.{Stepped, Ran, Blocked}
use Rattle.explain_cause.specs.declared.event.Event.{Event}
use Rattle.check_lint.specs.Uses.{local_set}

-- a thread, after a step or before the first one, carries an instruction out by itself
abbrev pub ran : ℕ → Option ℕ → ℕ → Instruction → ℤ → Event
ran t step at i v =
    record { thread = t; step = step; instruction = at; statement = i; deed = Ran v }

-- what a thread does by itself before these instructions, of which the first is number `at` and the
-- first `skip` are passed over, where its locals have these values
abbrev pub local_events :
    ℕ → Option ℕ → List Instruction → ℕ → ℕ → List ℤ → List Event
local_events t step [] at skip locals = []
local_events t step (i ∷ is) at (suc skip) locals = local_events t step is (at + 1) skip locals
local_events t step (Set r e ∷ is) at zero locals =
    ran t step at (Set r e) (value_of_expression locals e) ∷ local_events t step is (at + 1) 0
    (slice_set locals r (value_of_expression locals e))
local_events t step (Assert e ∷ is) at zero locals =
    ran t step at (Assert e) (value_of_expression locals e)
    ∷ (if is_zero (value_of_expression locals e) then [] else
    local_events t step is (at + 1) 0 locals)
local_events t step (SkipIfZero e n ∷ is) at zero locals =
    ran t step at (SkipIfZero e n) (value_of_expression locals e)
    ∷ local_events t step is (at + 1)
    (if is_zero (value_of_expression locals e) then n else 0) locals
local_events t step (Skip n ∷ is) at zero locals =
    ran t step at (Skip n) (pos 0) ∷ local_events t step is (at + 1) n locals
local_events t step (Load r x ∷ is) at zero locals = []
local_events t step (Store x a ∷ is) at zero locals = []
local_events t step (Add r x a ∷ is) at zero locals = []
local_events t step (Cas r x a b ∷ is) at zero locals = []
local_events t step (Lock m ∷ is) at zero locals = []
local_events t step (Unlock m ∷ is) at zero locals = []
local_events t step (Wait c m ∷ is) at zero locals = []
local_events t step (Signal c ∷ is) at zero locals = []
local_events t step (Broadcast c ∷ is) at zero locals = []
local_events t step (Acquire k ∷ is) at zero locals = []
local_events t step (Release k ∷ is) at zero locals = []

-- the values of a thread's locals after an event, and after some of its events
abbrev pub locals_with : List ℤ → Option ℕ → ℤ → List ℤ
locals_with locals None v = locals
locals_with locals (Some r) v = slice_set locals r v

abbrev pub locals_after : List ℤ → List Event → List ℤ
locals_after locals [] = locals
locals_after locals (e ∷ es) =
    locals_after (locals_with locals (local_set e.statement) (value_by e.deed)) es

-- the locals of thread t, where these are those of all threads
abbrev pub row : List (List ℤ) → ℕ → List ℤ
row all t = slice_index_or all t []

-- why a thread stopped in its step, and not by itself after it
abbrev pub stop_in_step : Option Stop → Option Stop
stop_in_step (Some FailedAssert) = None
stop_in_step stop = stop

-- the step at place k, by its instruction
abbrev pub visible_event : ℕ → Step → Instruction → Event
visible_event k step i = record {
  thread = step.line.thread;
  step = Some k;
  instruction = step.instruction;
  statement = i;
  deed = Stepped step.line.act (stop_in_step step.line.stop);
}

-- what its thread does by itself after it, where it goes on
abbrev pub events_after : List Instruction → ℕ → Step → List ℤ → List Event
events_after code k step locals = if nat_eq step.next step.instruction then [] else
    local_events step.line.thread (Some k) (drop (step.instruction + 1) code)
    (step.instruction + 1) 0 locals

-- the two together
abbrev pub events_with : List Instruction → ℕ → Step → List ℤ → Event → List Event
events_with code k step locals e =
    e ∷ events_after code k step (locals_with locals (local_set e.statement) (value_by e.deed))

abbrev pub events_by : List Instruction → ℕ → Step → List ℤ → Option Instruction → List Event
events_by code k step locals None = []
events_by code k step locals (Some i) = events_with code k step locals (visible_event k step i)

abbrev pub events_in : List Instruction → ℕ → Step → List ℤ → List Event
events_in code k step locals = events_by code k step locals (slice_get code step.instruction)

-- all locals after these events of thread t
abbrev pub all_after : List (List ℤ) → ℕ → List Event → List (List ℤ)
all_after all t es = slice_set all t (locals_after (row all t) es)

-- these steps, of which the first is at place k
abbrev pub events_from : Program → List (List ℤ) → ℕ → List Step → List Event
events_from p all k [] = []
events_from p all k (s ∷ ss) =
    let es = events_in (code_of p s.line.thread) k s (row all s.line.thread) in
    es ++ events_from p (all_after all s.line.thread es) (k + 1) ss

-- what n threads from t on do by themselves before the first step, and then these steps
abbrev pub opening_from : Program → List Step → List (List ℤ) → ℕ → ℕ → List Event
opening_from p steps all t zero = events_from p all 0 steps
opening_from p steps all t (suc n) =
    let es = local_events t None (code_of p t) 0 0 (row all t) in
    es ++ opening_from p steps (all_after all t es) (t + 1) n

-- at first each local is 0
abbrev pub all_zero : List (List ℤ)
all_zero = replicate THREADS (replicate LOCALS (pos 0))

-- who owns the mutex that a thread waits for
abbrev pub owner_for : List (Option Holder) → Option ℕ → Option Holder
owner_for holders None = None
owner_for holders (Some m) = slice_index_or holders m None

-- thread t can't go on, for this reason
abbrev pub blocked_by :
    List (Option Holder) → ℕ → ThreadState → Option Reason → Option Instruction → Option Event
blocked_by holders t thread_state None i = None
blocked_by holders t thread_state (Some reason) None = None
blocked_by holders t thread_state (Some reason) (Some i) = Some (record {
  thread = t;
  step = None;
  instruction = thread_state.instruction;
  statement = i;
  deed = Blocked reason (owner_for holders (mutex_of reason));
})

abbrev pub blocked_in : Program → List (Option Holder) → ℕ → Option ThreadState → Option Event
blocked_in p holders t None = None
blocked_in p holders t (Some s) =
    blocked_by holders t s s.reason (slice_get (code_of p t) s.instruction)

-- the event of thread t, where these are all threads and it can't go on
abbrev pub blocked_at : Program → List (Option Holder) → List ThreadState → ℕ → Option Event
blocked_at p holders thread_states t = blocked_in p holders t (slice_get thread_states t)

-- an event as a list, if there is one
abbrev pub listed : Option Event → List Event
listed None = []
listed (Some e) = e ∷ []

-- those of n threads from t on that can't go on
abbrev pub blocked_from :
    Program → List (Option Holder) → List ThreadState → ℕ → ℕ → List Event
blocked_from p holders thread_states t zero = []
blocked_from p holders thread_states t (suc n) =
    listed (blocked_at p holders thread_states t) ++ blocked_from p holders thread_states (t + 1) n

-- the threads that can't go on, where none stopped
abbrev pub all_blocked : Program → List (Option Holder) → List ThreadState → List Event
all_blocked p holders thread_states =
    if list_any (λ s. is_stopped s.status) thread_states then [] else
    blocked_from p holders thread_states 0 (length p.threads)

-- what happens in a run that is explained so
abbrev pub course : Program → Explanation → List Event
course p told = opening_from p told.steps.items all_zero 0 (length p.threads)
    ++ all_blocked p told.holders.items told.thread_states.items
