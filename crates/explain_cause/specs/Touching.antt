-- What one event of a run has to do with a later one, at the most.
use Rattle.std.specs.Prelude.{ℕ, nat_eq, Bool, false, ◌||◌, ◌&&◌, Option, Some, None}
use Rattle.guest_code.specs.Program.{Program}
use Rattle.explain_cause.specs.{Asked.asks_for, Events.{is_end, uses_local, written_by}}
use Rattle.explain_cause.specs.{Tests.passes_write, declared.event.Event.Event}
use Rattle.check_lint.specs.{Paths.is_test, Uses.{is, local_set, variable_read, variable_used}}

-- an event reads or writes this variable, if it is one
abbrev pub uses_variable : Option ℕ → Event → Bool
uses_variable None e = false
uses_variable (Some x) e = is x (variable_used e.statement)

-- it is of thread t, and uses this local, if it is one
abbrev pub uses_own : ℕ → Option ℕ → Event → Bool
uses_own t None e = false
uses_own t (Some r) e = uses_local t r e

-- it passed by what would have written this variable, if it is one
abbrev pub passes_variable : Program → Event → Option ℕ → Bool
passes_variable p e None = false
passes_variable p e (Some x) = passes_write p x e

-- an event touches a later one: it writes a variable that that one reads or writes, or sets a local
-- that that one uses, or is a test of the same thread, or one that passed by what would have written
-- a variable that that one reads, or that one is an end that asks for it
abbrev pub touches : Program → Event → Event → Bool
touches p e later = uses_variable (written_by e.statement e.deed) later
    || (uses_own e.thread (local_set e.statement) later
    || ((is_test e.statement && nat_eq later.thread e.thread)
    || (passes_variable p e (variable_read later.statement)
    || (is_end later && asks_for p later e))))
