-- What is known of the events of a run, and of what is kept of them.
use Rattle.std.specs.Prelude.{◌≡◌, ℕ, ◌<◌, false, List, [], length, None, slice_index_or}
use Rattle.std.specs.List.{count_by}
use Rattle.guest_code.specs.Program.{Program, code_of, IsValid}
use Rattle.guest_code.specs.declared.limits.TheConstants.{LOCALS, THREADS, VARIABLES}
use Rattle.explain_cause.specs.Causes.{Marked, is_read, is_used, is_next, least_in, ends_in}
use Rattle.explain_cause.specs.{Events.is_use, declared.backward_slice.BackwardSlice.BackwardSlice}
use Rattle.explain_cause.specs.declared.event.Event.{Event}

-- the numbers of an event are in range
pub record IsValidEvent (p : Program) (e : Event) : Type 0 where
  pub thread : e.thread < length p.threads
  pub inside : e.instruction < length (code_of p e.thread)
  pub statement : IsValid p e.statement

-- this is what is needed of the events before, where these follow
pub record IsWanted (before : List Event) (ms : List Marked) (w : BackwardSlice) : Type 0 where
  pub read : (x : ℕ) → x < VARIABLES → slice_index_or w.read x false ≡ is_read ms x
  pub used : (t r : ℕ) → t < THREADS → r < LOCALS →
      slice_index_or (slice_index_or w.used t []) r false ≡ is_used ms t r
  pub next : (t x : ℕ) → t < THREADS → x < VARIABLES →
      slice_index_or (slice_index_or w.next t []) x false ≡ is_next ms t x
  pub uses : (t x : ℕ) → t < THREADS → x < VARIABLES →
      slice_index_or (slice_index_or w.uses t []) x 0 ≡ count_by (is_use t x) before
  pub least : (t : ℕ) → t < THREADS → slice_index_or w.least t None ≡ least_in ms t
  pub ends : w.ends.items ≡ ends_in ms
