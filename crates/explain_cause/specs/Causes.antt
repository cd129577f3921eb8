-- Which events of a run are in the cause of how it ended. They are marked from the last one on: an
-- event is in the cause where it is an end of the run, or where one after it, which is in the
-- cause, needs it.
use Rattle.std.specs.Prelude.{◌≡◌, ℕ, zero, suc, ◌<◌, ◌≤◌, ◌↔◌, nat_eq, nat_lt, pos, Bool, true, false, not, ◌||◌, ◌&&◌, List, [], ◌∷◌, ◌++◌, map, length, Option, Some, None, slice_index_or, if◌then◌else◌}
use Rattle.std.specs.List.{list_any, count_by}
use Rattle.guest_code.specs.Program.{Program, code_of}
use Rattle.guest_code.specs.declared.limits.TheConstants.{THREADS, VARIABLES}
use Rattle.guest_code.specs.declared.program.Instruction.TheVariants.{Skip}
use Rattle.explain_cause.specs.Asked.{asks_for}
use Rattle.explain_cause.specs.Events.{written_by, is_end, reads, writes, is_use, sets_local, uses_local}
use Rattle.explain_cause.specs.Tests.{merge_point, passes_write}
use Rattle.explain_cause.specs.declared.event.{Deed.TheVariants.Ran, Event.Event}
use Rattle.check_lint.specs.{Paths.is_test, Uses.local_set}

-- an event, and whether it is in the cause
pub record Marked : Type 0 where
  pub event : Event
  pub mark : Bool

-- one of these is so, and none before it stops the search
abbrev pub soon : (Marked → Bool) → (Event → Bool) → List Marked → Bool
soon so stops [] = false
soon so stops (m ∷ ms) = so m || (not (stops m.event) && soon so stops ms)

-- one of these in the cause reads variable x, and none before it writes it
abbrev pub is_read : List Marked → ℕ → Bool
is_read ms x = soon (λ m. m.mark && reads x m.event) (writes x) ms

-- one of these in the cause, of thread t, uses local r, and none before it sets it
abbrev pub is_used : List Marked → ℕ → ℕ → Bool
is_used ms t r = soon (λ m. m.mark && uses_local t r m.event) (sets_local t r) ms

-- the first of these by which thread t uses variable x is in the cause
abbrev pub is_next : List Marked → ℕ → ℕ → Bool
is_next ms t x = soon (λ m. m.mark && is_use t x m.event) (is_use t x) ms

-- the lesser of the two
abbrev pub lesser : Option ℕ → ℕ → ℕ
lesser None n = n
lesser (Some m) n = if nat_lt m n then m else n

-- the least number of an instruction, with this one where it is in the cause
abbrev pub least_with : Option ℕ → ℕ → Bool → Option ℕ
least_with least n mark = if mark then Some (lesser least n) else least

-- the least number of an instruction of these that are in the cause and of thread t
abbrev pub least_in : List Marked → ℕ → Option ℕ
least_in [] t = None
least_in (m ∷ ms) t = least_with (least_in ms t) m.event.instruction
    (m.mark && nat_eq m.event.thread t)

-- it is there and below n
abbrev pub is_below : ℕ → Option ℕ → Bool
is_below n None = false
is_below n (Some m) = nat_lt m n

-- these ends, with this event where it is one
abbrev pub ends_with : List Event → Event → List Event
ends_with ends e = if is_end e then ends ++ e ∷ [] else ends

-- the ends among these, the last one first
abbrev pub ends_in : List Marked → List Event
ends_in [] = []
ends_in (m ∷ ms) = ends_with (ends_in ms) m.event

-- a number below n is so
abbrev pub any_below : (ℕ → Bool) → ℕ → Bool
any_below so zero = false
any_below so (suc n) = any_below so n || so n

-- a variable is read that this event wrote last
abbrev pub is_read_from : List Marked → Option ℕ → Bool
is_read_from ms None = false
is_read_from ms (Some x) = is_read ms x

-- a local of thread t is used that this event set last
abbrev pub flows_on : List Marked → ℕ → Option ℕ → Bool
flows_on ms t None = false
flows_on ms t (Some r) = is_used ms t r

-- another thread than t used the variable before, and its next use is in the cause
abbrev pub is_missed_by : List Event → List Marked → ℕ → ℕ → ℕ → Bool
is_missed_by before ms t x u =
    not (nat_eq u t) && (is_next ms u x && nat_lt 0 (count_by (is_use u x) before))

abbrev pub is_missed : List Event → List Marked → ℕ → Option ℕ → Bool
is_missed before ms t None = false
is_missed before ms t (Some x) = any_below (is_missed_by before ms t x) THREADS

-- an event is a test by which its thread came to one in the cause
abbrev pub decides : Program → List Marked → Event → Bool
decides p ms e = is_test e.statement
    && is_below (merge_point (code_of p e.thread) e.instruction) (least_in ms e.thread)

-- an event is a test that passed by what would have written a variable that is read
abbrev pub passes_by_read : Program → List Marked → Event → Bool
passes_by_read p ms e = any_below (λ x. is_read ms x && passes_write p x e) VARIABLES

-- an event is needed by those after it, where these are the events up to it
abbrev pub is_needed : Program → List Event → List Marked → Event → Bool
is_needed p before ms e = is_end e || (is_read_from ms (written_by e.statement e.deed)
    || (flows_on ms e.thread (local_set e.statement) || (decides p ms e
    || (is_missed before ms e.thread (written_by e.statement e.deed) || (passes_by_read p ms e
    || list_any (λ end. asks_for p end e) (ends_in ms))))))

-- these events after those, each with its mark
abbrev pub marked : Program → List Event → List Event → List Marked
marked p before [] = []
marked p before (e ∷ es) =
    let ms = marked p (before ++ e ∷ []) es in
    record { event = e; mark = is_needed p (before ++ e ∷ []) ms e } ∷ ms

-- the marks
abbrev pub marks_in : List Marked → List Bool
marks_in ms = map (λ m. m.mark) ms

-- an event that is not there
abbrev pub no_event : Event
no_event =
    record { thread = 0; step = None; instruction = 0; statement = Skip 0; deed = Ran (pos 0) }

-- the event at place k
abbrev pub event_at : List Event → ℕ → Event
event_at events k = slice_index_or events k no_event

-- none of the events from place k on up to place j, without that one, is so
abbrev pub NoneOf : List Event → (Event → Bool) → ℕ → ℕ → Type 0
NoneOf events so k j =
    (i : ℕ) → k ≤ i → i < j → i < length events → so (event_at events i) ≡ false

-- one of the first n events is marked and of step k
pub record IsStepMarked (events : List Event) (marks : List Bool) (n k : ℕ) : Type 0 where
  pub place : ℕ
  pub inside : place < n
  pub marked : slice_index_or marks place false ≡ true
  pub step : (event_at events place).step ≡ Some k

-- these are the marks of this many steps, true exactly where one of the first n events is marked
-- and of the step
pub record AreStepMarks (events : List Event) (marks : List Bool) (n count : ℕ)
    (steps : List Bool) : Type 0 where
  pub all : length steps ≡ count
  pub each : (k : ℕ) → k < count →
      (slice_index_or steps k false ≡ true) ↔ IsStepMarked events marks n k
