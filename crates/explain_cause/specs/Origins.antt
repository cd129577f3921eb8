-- Where values come from, and where a run failed.
use Rattle.std.specs.Prelude.{◌≡◌, ℕ, ◌+◌, ◌<◌, nat_eq, Bool, true, false, ◌||◌, List, length, take, Option, Some, None, is_some}
use Rattle.std.specs.List.{count_by}
use Rattle.replay.specs.declared.run.Act.TheVariants.{Lock, Unlock, Wait, Retake}
use Rattle.explain_run.specs.declared.step.Step.{Step}
use Rattle.explain_cause.specs.Causes.{event_at, NoneOf}
use Rattle.explain_cause.specs.Events.{stop_by, sets_local, writes, is_jump_over}
use Rattle.explain_cause.specs.declared.event.{Deed.Deed, Deed.TheVariants.Stepped, Event.Event}
use Rattle.explain_cause.specs.declared.{failure.Failure.Failure, origins.EventRole.EventRole}
use Rattle.explain_cause.specs.declared.origins.EventRole.TheVariants.{Setter, Writer, Jumper, OwnerChanger}

-- place k is the last one before `at` whose event is so
pub record IsLastBefore (events : List Event) (so : Event → Bool) (at k : ℕ) : Type 0 where
  pub before : k < at
  pub inside : k < length events
  pub is : so (event_at events k) ≡ true
  pub last : NoneOf events so (k + 1) at

-- an event takes mutex m
abbrev pub takes_by : ℕ → Deed → Bool
takes_by m (Stepped (Lock n) stop) = nat_eq n m
takes_by m (Stepped (Retake n) stop) = nat_eq n m
takes_by m _ = false

-- it gives mutex m back
abbrev pub gives_by : ℕ → Deed → Bool
gives_by m (Stepped (Unlock n) None) = nat_eq n m
gives_by m (Stepped (Wait c n) None) = nat_eq n m
gives_by m _ = false

abbrev pub moves : ℕ → Event → Bool
moves m e = takes_by m e.deed || gives_by m e.deed

-- the event does what is sought
abbrev pub has_role : EventRole → Event → Bool
has_role (Setter t r) e = sets_local t r e
has_role (Writer x) e = writes x e
has_role (Jumper t i) e = is_jump_over t i e
has_role (OwnerChanger m) e = moves m e

-- mutex m is owned before place `at` since the event at place k, which took it: since then nobody
-- took it or gave it back
pub record IsTakenAt (events : List Event) (m at k : ℕ) : Type 0 where
  pub last : IsLastBefore events (moves m) at k
  pub takes : takes_by m (event_at events k).deed ≡ true

-- a thread stops in an event
abbrev pub stops : Event → Bool
stops e = is_some (stop_by e.statement e.deed)

-- how many steps are taken up to this one
abbrev pub steps_up_to : Option ℕ → ℕ
steps_up_to None = 0
steps_up_to (Some step) = step + 1

-- a thread stopped first here, after this many preempting switches
pub record IsFailure (steps : List Step) (events : List Event) (f : Failure) : Type 0 where
  pub inside : f.event < length events
  pub is : stops (event_at events f.event) ≡ true
  pub first : NoneOf events stops 0 f.event
  pub thread : f.thread ≡ (event_at events f.event).thread
  pub step : f.step ≡ (event_at events f.event).step
  pub preemptions : f.preemptions ≡ count_by (λ s. s.line.preempting)
      (take (steps_up_to f.step) steps)
