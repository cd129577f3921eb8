-- What is kept of what the events from a place on need, and how it changes from one to the other.
use Rattle.std.specs.Prelude.{◌≡◌, ℕ, nat_eq, nat_lt, ◌<◌, ◌-◌, Bool, false, not, ◌||◌, ◌&&◌, List, [], Option, Some, None, slice_index_or, if◌then◌else◌}
use Rattle.std.specs.List.{list_any}
use Rattle.guest_code.specs.Program.{Program, code_of}
use Rattle.guest_code.specs.declared.limits.TheConstants.{LOCALS, THREADS, VARIABLES}
use Rattle.explain_cause.specs.{Asked.asks_for, Causes.{any_below, ends_with, is_below, least_with}}
use Rattle.explain_cause.specs.Events.{written_by, is_end, reads, writes, is_use, sets_local, uses_local}
use Rattle.explain_cause.specs.Tests.{merge_point, passes_write}
use Rattle.explain_cause.specs.declared.backward_slice.BackwardSlice.{BackwardSlice}
use Rattle.explain_cause.specs.declared.event.Event.{Event}
use Rattle.check_lint.specs.{Paths.is_test, Uses.local_set}

-- the flag of a number, if it is there
abbrev pub found : List Bool → Option ℕ → Bool
found flags None = false
found flags (Some x) = slice_index_or flags x false

-- a flag, a count or an entry of thread t
abbrev pub flag : List (List Bool) → ℕ → ℕ → Bool
flag rows t x = slice_index_or (slice_index_or rows t []) x false

abbrev pub count : List (List ℕ) → ℕ → ℕ → ℕ
count rows t x = slice_index_or (slice_index_or rows t []) x 0

abbrev pub entry : List (Option ℕ) → ℕ → Option ℕ
entry entries t = slice_index_or entries t None

-- an event is a test by which its thread came to one in the cause, where this is the least of those
abbrev pub decides_by : Program → Event → Option ℕ → Bool
decides_by p e least =
    is_test e.statement && is_below (merge_point (code_of p e.thread) e.instruction) least

-- a write of thread t is missed
abbrev pub is_missed_by_in : BackwardSlice → ℕ → ℕ → ℕ → Bool
is_missed_by_in w t x u = not (nat_eq u t) && (flag w.next u x && nat_lt 0 (count w.uses u x))

abbrev pub is_missed_in : BackwardSlice → ℕ → Option ℕ → Bool
is_missed_in w t None = false
is_missed_in w t (Some x) = any_below (is_missed_by_in w t x) THREADS

-- an event is a test that passed by what would have written variable x, which is read, or one that is
abbrev pub passes_in : Program → BackwardSlice → Event → ℕ → Bool
passes_in p w e x = slice_index_or w.read x false && passes_write p x e

abbrev pub passes_read_in : Program → BackwardSlice → Event → Bool
passes_read_in p w e = any_below (passes_in p w e) VARIABLES

-- an event is needed
abbrev pub needs : Program → BackwardSlice → Event → Bool
needs p w e = is_end e || (found w.read (written_by e.statement e.deed)
    || (found (slice_index_or w.used e.thread []) (local_set e.statement)
    || (decides_by p e (entry w.least e.thread)
    || (is_missed_in w e.thread (written_by e.statement e.deed) || (passes_read_in p w e
    || list_any (λ end. asks_for p end e) w.ends.items)))))

-- the place was moved before an event, marked or not
pub record IsMovedBefore (e : Event) (mark : Bool) (old new : BackwardSlice) : Type 0 where
  pub read : (x : ℕ) → x < VARIABLES → slice_index_or new.read x false
      ≡ ((mark && reads x e) || (not (writes x e) && slice_index_or old.read x false))
  pub used : (t r : ℕ) → t < THREADS → r < LOCALS → flag new.used t r
      ≡ ((mark && uses_local t r e) || (not (sets_local t r e) && flag old.used t r))
  pub next : (t x : ℕ) → t < THREADS → x < VARIABLES → flag new.next t x
      ≡ (if is_use t x e then mark else flag old.next t x)
  pub uses : (t x : ℕ) → t < THREADS → x < VARIABLES → count new.uses t x
      ≡ (if is_use t x e then count old.uses t x - 1 else count old.uses t x)
  pub least : (t : ℕ) → t < THREADS → entry new.least t
      ≡ least_with (entry old.least t) e.instruction (mark && nat_eq e.thread t)
  pub ends : new.ends.items ≡ ends_with old.ends.items e
