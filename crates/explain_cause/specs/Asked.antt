-- What an end of a run asks for.
use Rattle.std.specs.Prelude.{ℕ, nat_eq, nat_le, ◌+◌, Bool, false, not, ◌||◌, ◌&&◌, drop, take, Option, Some, None}
use Rattle.std.specs.List.{list_any}
use Rattle.guest_code.specs.{Program.{Program, code_of}, declared.program.Instruction.Instruction}
use Rattle.guest_code.specs.declared.program.Instruction.TheVariants.{Unlock, Wait, Release}
use Rattle.explain_run.specs.{Blocked.could_end, declared.explanation.Holder.Holder}
use Rattle.explain_run.specs.declared.thread_state.Reason.{Reason}
use Rattle.explain_run.specs.declared.thread_state.Reason.TheVariants as reasons
use Rattle.explain_cause.specs.{Events.{is_step, jump_by}, declared.event.Deed.Deed}
use Rattle.explain_cause.specs.declared.event.Deed.TheVariants.{Stepped, Ran, Blocked}
use Rattle.explain_cause.specs.declared.event.Event.{Event}
use Rattle.check_lint.specs.Uses.{is, names_mutex, names_condition, names_semaphore}

-- a statement names the mutex or the semaphore at which a thread stops at the first statement
abbrev pub shares_object : Instruction → Instruction → Bool
shares_object (Unlock m) i = names_mutex m i
shares_object (Wait c m) i = names_mutex m i
shares_object (Release k) i = names_semaphore k i
shares_object _ i = false

-- an event passes over a statement that could end a wait for this reason
abbrev pub passes_by : Program → Event → Reason → Bool
passes_by p e reason = list_any (could_end reason)
    (take (jump_by e.statement e.deed) (drop (e.instruction + 1) (code_of p e.thread)))

-- a step is there and not before step k
abbrev pub is_not_before : ℕ → Option ℕ → Bool
is_not_before k None = false
is_not_before k (Some step) = nat_le k step

-- the event is the step by which the owner of a mutex took it
abbrev pub took_mutex : Holder → Event → Bool
took_mutex holder e = is_step e.deed && is holder.since e.step

-- the event is of the owner, in that step or after it
abbrev pub is_by_owner : Holder → Event → Bool
is_by_owner holder e = nat_eq e.thread holder.thread && is_not_before holder.since e.step

-- a thread that waits for a mutex asks for an event, where this is who owns it: for the step by
-- which the owner took it, and where the owner passed by since then what gives it back
abbrev pub is_asked_of_owner : Program → Reason → Option Holder → Event → Bool
is_asked_of_owner p reason None e = false
is_asked_of_owner p reason (Some holder) e =
    took_mutex holder e || (is_by_owner holder e && passes_by p e reason)

-- an end of thread t asks for an event: where the thread stopped at a mutex or a semaphore, for all
-- that is on it; where it waits for a condition, for each statement on it, and where another thread
-- passed one that wakes by; for a semaphore, for each statement on it, and where a `release` of it
-- was passed by
abbrev pub asks_by : Program → ℕ → Instruction → Deed → Event → Bool
asks_by p t i (Ran v) e = false
asks_by p t i (Stepped act None) e = false
asks_by p t i (Stepped act (Some why)) e = shares_object i e.statement
asks_by p t i (Blocked (reasons.Signal c) holder) e =
    names_condition c e.statement || (not (nat_eq e.thread t) && passes_by p e (reasons.Signal c))
asks_by p t i (Blocked (reasons.Acquire k) holder) e =
    names_semaphore k e.statement || passes_by p e (reasons.Acquire k)
asks_by p t i (Blocked (reasons.Lock m) holder) e = is_asked_of_owner p (reasons.Lock m) holder e
asks_by p t i (Blocked (reasons.Retake m) holder) e =
    is_asked_of_owner p (reasons.Retake m) holder e

abbrev pub asks_for : Program → Event → Event → Bool
asks_for p end e = asks_by p end.thread end.statement end.deed e
