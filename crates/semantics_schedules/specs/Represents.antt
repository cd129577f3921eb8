-- When some schedules from a state say of it what all of them say, but for their number: so that a
-- search of these has the verdict, the first bad schedule and the end views of a search of all.
use Rattle.std.specs.Prelude.{◌≡◌, ◌↔◌, ℕ, Bool, nat_le, nat_lt, List, map, filter, Option, Contains}
use Rattle.std.specs.List.{list_any}
use Rattle.guest_code.specs.Program.{Program}
use Rattle.semantics.specs.{Machine.Snapshot, View.View}
use Rattle.semantics_schedules.specs.Order.{least, end_from, ends_badly}
use Rattle.semantics_schedules.specs.Schedules.{preemptions_from}

-- they are some of all, the least bad one of them is that of all, if there is one, and they have
-- all end views
pub record Represents (p : Program) (s : Snapshot) (few all : List (List ℕ)) : Type 0 where
  pub own : (w : List ℕ) → Contains few w → Contains all w
  pub least_bad : least (filter (ends_badly p s) few) ≡ least (filter (ends_badly p s) all)
  pub ends : (x : View) → Contains (map (end_from p s) few) x
      ↔ Contains (map (end_from p s) all) x

-- the schedules of a list that have at most so many preemptions, after a step of the thread `last`
-- or of none
abbrev pub within_bound : Program → Snapshot → Option ℕ → ℕ → List (List ℕ) → List (List ℕ)
within_bound p s last bound L = filter (λ w. nat_le (preemptions_from p s last w) bound) L

-- one of them has more
abbrev pub some_exceeds : Program → Snapshot → Option ℕ → ℕ → List (List ℕ) → Bool
some_exceeds p s last bound L = list_any (λ w. nat_lt bound (preemptions_from p s last w)) L

-- they do so within each bound, and one of them exceeds it exactly where one of all does: so a
-- search that goes from bound to bound ends at the same one, with a schedule of as many preemptions
pub record RepresentsWithin (p : Program) (s : Snapshot) (last : Option ℕ)
    (few all : List (List ℕ)) : Type 0 where
  pub within : (bound : ℕ) → Represents p s (within_bound p s last bound few)
      (within_bound p s last bound all)
  pub exceeds : (bound : ℕ) → some_exceeds p s last bound few ≡ some_exceeds p s last bound all
