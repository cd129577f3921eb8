-- The cause of how a run ended, as a relation between events: the least set that has the ends of the
-- run and, with each event, those before it that it needs.
use Rattle.std.specs.Prelude.{◌≡◌, ◌≢◌, ◌⊎◌, ℕ, ◌+◌, ◌<◌, ◌↔◌, Bool, true, false, List, length, slice_index_or}
use Rattle.guest_code.specs.Program.{Program, code_of}
use Rattle.explain_cause.specs.{Asked.asks_for, Causes.{event_at, NoneOf}}
use Rattle.explain_cause.specs.Events.{is_end, reads, writes, is_use, sets_local, uses_local}
use Rattle.explain_cause.specs.{Tests.{merge_point, passes_write}, declared.event.Event.Event}
use Rattle.check_lint.specs.Paths.{is_test}

-- the event at place j reads a variable that the one at place k wrote last
pub record ReadsFrom (events : List Event) (j k : ℕ) : Type 0 where
  pub variable : ℕ
  pub reads : reads variable (event_at events j) ≡ true
  pub written : writes variable (event_at events k) ≡ true
  pub last : NoneOf events (writes variable) (k + 1) j

-- it uses a local that the one at place k, of its thread, set last
pub record FlowsFrom (events : List Event) (j k : ℕ) : Type 0 where
  pub local : ℕ
  pub uses : uses_local (event_at events k).thread local (event_at events j) ≡ true
  pub sets : sets_local (event_at events k).thread local (event_at events k) ≡ true
  pub last : NoneOf events (sets_local (event_at events k).thread local) (k + 1) j

-- its thread comes to it by the test at place k: it is among what the test's jump, or a jump among
-- that, passes over, and so comes before the point to which both ways of the test lead
pub record IsDecidedBy (p : Program) (events : List Event) (j k : ℕ) : Type 0 where
  pub thread : (event_at events j).thread ≡ (event_at events k).thread
  pub test : is_test (event_at events k).statement ≡ true
  pub within : (event_at events j).instruction
      < merge_point (code_of p (event_at events k).thread) (event_at events k).instruction

-- it uses a variable, its thread used that before, and between the two uses another thread wrote
-- it, at place k
pub record Misses (events : List Event) (j k : ℕ) : Type 0 where
  pub variable : ℕ
  pub again : is_use (event_at events j).thread variable (event_at events j) ≡ true
  pub earlier : ℕ
  pub before : earlier < k
  pub used : is_use (event_at events j).thread variable (event_at events earlier) ≡ true
  pub next : NoneOf events (is_use (event_at events j).thread variable) (k + 1) j
  pub writes : writes variable (event_at events k) ≡ true
  pub other : (event_at events j).thread ≢ (event_at events k).thread

-- it reads a variable, and the test at place k passed a statement by which would have written it,
-- after what wrote it last
pub record ReadsPast (p : Program) (events : List Event) (j k : ℕ) : Type 0 where
  pub variable : ℕ
  pub reads : reads variable (event_at events j) ≡ true
  pub passed : passes_write p variable (event_at events k) ≡ true
  pub last : NoneOf events (writes variable) (k + 1) j

-- it is an end of the run, and asks for the one at place k
pub record Asks (p : Program) (events : List Event) (j k : ℕ) : Type 0 where
  pub end : is_end (event_at events j) ≡ true
  pub asks : asks_for p (event_at events j) (event_at events k) ≡ true

-- the event at place j needs the one at place k, before it
abbrev pub Needs : Program → List Event → ℕ → ℕ → Type 0
Needs p events j k = ReadsFrom events j k ⊎ (FlowsFrom events j k
    ⊎ (IsDecidedBy p events j k ⊎ (Misses events j k
    ⊎ (ReadsPast p events j k ⊎ Asks p events j k))))

-- the event at place k is in the cause: it is an end of the run, or one in the cause, after it,
-- needs it
pub data InCause (p : Program) (events : List Event) : ℕ → Type 0 where
  ends : (k : ℕ) → k < length events → is_end (event_at events k) ≡ true → InCause p events k
  needed : (j k : ℕ) → k < j → Needs p events j k → InCause p events j → InCause p events k

-- the marks are true exactly of the events in the cause
pub record AreMarks (p : Program) (events : List Event) (marks : List Bool) : Type 0 where
  pub all : length marks ≡ length events
  pub each : (k : ℕ) → k < length events →
      (slice_index_or marks k false ≡ true) ↔ InCause p events k
