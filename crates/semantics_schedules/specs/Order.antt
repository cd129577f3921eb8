-- Which schedules are complete, the order of schedules, and the least of a list.
use Rattle.std.specs.Prelude.{ℕ, Bool, true, false, ◌&&◌, ◌||◌, nat_eq, nat_lt, List, [], ◌∷◌, Option, Some, None, if◌then◌else◌}
use Rattle.guest_code.specs.Program.{Program}
use Rattle.semantics.specs.Ends.{is_terminal, view_at}
use Rattle.semantics.specs.{Machine.{Snapshot, step, is_enabled, start}, View.{View, is_bad}}
use Rattle.semantics_schedules.specs.Schedules.{state_after}

-- the schedule is complete from a state: each step is one of an enabled thread, and nothing is
-- enabled at the end
abbrev pub is_complete : Program → Snapshot → List ℕ → Bool
is_complete p s [] = is_terminal p s
is_complete p s (t ∷ w) = is_enabled p s t && is_complete p (step p s t) w

-- the one comes before the other: by thread numbers, place by place; a beginning comes before what
-- it begins
abbrev pub precedes : List ℕ → List ℕ → Bool
precedes v [] = false
precedes [] (u ∷ w) = true
precedes (t ∷ v) (u ∷ w) = nat_lt t u || (nat_eq t u && precedes v w)

-- the lesser of two schedules, either of which may be missing; one that is there where the other
-- isn't
abbrev pub lesser : Option (List ℕ) → Option (List ℕ) → Option (List ℕ)
lesser None w = w
lesser (Some v) None = Some v
lesser (Some v) (Some w) = if precedes w v then Some w else Some v

-- the least of a list; none of an empty one
abbrev pub least : List (List ℕ) → Option (List ℕ)
least [] = None
least (w ∷ ws) = lesser (Some w) (least ws)

-- the view after a complete schedule of the program
abbrev pub end_of : Program → List ℕ → View
end_of p w = view_at (state_after p (start p) w)

-- the view after a complete schedule from a state
abbrev pub end_from : Program → Snapshot → List ℕ → View
end_from p s w = view_at (state_after p s w)

-- a complete schedule from a state ends in a failure or a deadlock
abbrev pub ends_badly : Program → Snapshot → List ℕ → Bool
ends_badly p s w = is_bad (end_from p s w).kind
