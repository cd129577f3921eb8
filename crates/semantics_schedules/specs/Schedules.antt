-- Schedules of a program: which run, all complete ones, and their preemptions. A schedule is the
-- list of the threads whose steps it takes, by their numbers; it is complete where nothing is
-- enabled after it.
use Rattle.std.specs.Prelude.{ℕ, zero, suc, ◌+◌, Bool, true, false, not, ◌&&◌, nat_eq, nat_le, nat_lt, List, [], ◌∷◌, map, filter, flat_map, Option, Some, None}
use Rattle.std.specs.List.{list_any}
use Rattle.guest_code.specs.Program.{Program}
use Rattle.semantics.specs.{Ends.enabled, Machine.{Snapshot, step, start, is_enabled}, Mask.one_if}
use Rattle.semantics.specs.Work.{work}

-- the state that the steps of a schedule lead to
abbrev pub state_after : Program → Snapshot → List ℕ → Snapshot
state_after p s [] = s
state_after p s (t ∷ w) = state_after p (step p s t) w

-- the schedule runs from a state: each step is one of a thread that is enabled there
abbrev pub runs : Program → Snapshot → List ℕ → Bool
runs p s [] = true
runs p s (t ∷ w) = is_enabled p s t && runs p (step p s t) w

-- these schedules, each with a step of t in front
abbrev pub before : ℕ → List (List ℕ) → List (List ℕ)
before t L = map (λ w. t ∷ w) L

-- the empty schedule alone where nothing is enabled, else these
abbrev pub or_complete : List ℕ → List (List ℕ) → List (List ℕ)
or_complete [] L = [] ∷ []
or_complete (t ∷ ts) L = L

-- the schedules from a state, in order, each of them complete or cut off after a number of steps
abbrev pub schedules_cut_at : ℕ → Program → Snapshot → List (List ℕ)
schedules_cut_at zero p s = [] ∷ []
schedules_cut_at (suc n) p s = or_complete (enabled p s)
    (flat_map (λ t. before t (schedules_cut_at n p (step p s t))) (enabled p s))

-- all complete schedules from a state, in order: none is cut off, since no more steps can be taken
unfoldable pub complete_schedules : Program → Snapshot → List (List ℕ)
complete_schedules p s = schedules_cut_at (work p s) p s

-- after a step of the thread `last`, or of none, a step of t is a preempting switch: `last` could
-- have gone on
abbrev pub preempts : Program → Snapshot → Option ℕ → ℕ → Bool
preempts p s None t = false
preempts p s (Some last) t = is_enabled p s last && not (nat_eq last t)

-- the preempting switches of a schedule that goes on from a state, after a step of the thread
-- `last` or of none
abbrev pub preemptions_from : Program → Snapshot → Option ℕ → List ℕ → ℕ
preemptions_from p s last [] = 0
preemptions_from p s last (t ∷ w) = one_if (preempts p s last t) + preemptions_from p (step p s t)
    (Some t) w

-- the preempting switches of a schedule of the program
abbrev pub preemptions : Program → List ℕ → ℕ
preemptions p w = preemptions_from p (start p) None w

-- the second schedule begins with the first one
abbrev pub begins_with : List ℕ → List ℕ → Bool
begins_with [] w = true
begins_with (t ∷ prefix) [] = false
begins_with (t ∷ prefix) (u ∷ w) = nat_eq t u && begins_with prefix w

-- the complete schedules of the program that begin with a prefix
unfoldable pub schedules_under : Program → List ℕ → List (List ℕ)
schedules_under p prefix = filter (begins_with prefix) (complete_schedules p (start p))

-- those of them with at most `bound` preemptions
unfoldable pub schedules_within : Program → List ℕ → ℕ → List (List ℕ)
schedules_within p prefix bound = filter (λ w. nat_le (preemptions p w) bound)
    (schedules_under p prefix)

-- one of those that begin with the prefix has more preemptions than that
unfoldable pub exceeds_bound : Program → List ℕ → ℕ → Bool
exceeds_bound p prefix bound = list_any (λ w. nat_lt bound (preemptions p w))
    (schedules_under p prefix)

-- the thread of the last step of a schedule; if it has no step, the one before it
abbrev pub last_after : Option ℕ → List ℕ → Option ℕ
last_after last [] = last
last_after last (t ∷ w) = last_after (Some t) w

-- the thread of the last step of a schedule, if it has a step
abbrev pub last_of : List ℕ → Option ℕ
last_of w = last_after None w
