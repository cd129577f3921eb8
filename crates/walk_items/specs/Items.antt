-- Items: the complete schedules that begin with a prefix, and their sums.
use Rattle.std.specs.Prelude.{◌≡◌, ℕ, ◌+◌, Bool, true, false, List, All, [], ◌∷◌, ◌++◌, length, map}
use Rattle.std.specs.Prelude.{filter, nat_le, nat_lt}
use Rattle.std.specs.{Arc.arc_value, List.list_any, declared.alloc.Global.Global}
use Rattle.std.specs.declared.sync.Arc.{Arc}
use Rattle.guest_code.specs.Program.{Program}
use Rattle.semantics.specs.{Machine.{Snapshot, start}, Mask.{no_threads, has, one_if}}
use Rattle.semantics.specs.declared.mask.Mask.{Mask}
use Rattle.semantics_schedules.specs.EqualThreads.{complete_once, reduced_once}
use Rattle.semantics_schedules.specs.Order.{is_complete}
use Rattle.semantics_schedules.specs.Schedules.{state_after, runs, begins_with, schedules_under}
use Rattle.semantics_schedules.specs.Schedules.{schedules_within, exceeds_bound, preemptions}
use Rattle.semantics_schedules.specs.Schedules.{last_of}
use Rattle.semantics_schedules.specs.Sleep.{reduced_schedules}
use Rattle.walk_items.specs.declared.mode.Mode.{Mode, TheVariants.{Bounded, Reduced}}
use Rattle.walk_items.specs.declared.mode.Mode.TheVariants.{BoundedOnce, ReducedOnce}
use Rattle.walk_summary.specs.Summaries.{SummaryView, nothing, sum_of, join, with_beyond}

-- what contracts see of an item: a prefix of a program's schedules, and the threads that sleep
-- after the prefix
pub record ItemView : Type 0 where
  pub program : Program
  pub prefix : List ℕ
  pub mask : Mask

-- what contracts see of an item of these parts
abbrev pub item_view : Arc Program Global → List ℕ → Mask → ItemView
item_view program prefix mask =
    record { program = arc_value program; prefix = prefix; mask = mask }

-- the item of a program's schedules that begin with a prefix
abbrev pub item_at : Program → List ℕ → ItemView
item_at p prefix = record { program = p; prefix = prefix; mask = no_threads }

-- the item of all schedules of a program
abbrev pub root_of : Program → ItemView
root_of p = item_at p []

-- these items are of a program
abbrev pub AreOf : Program → List ItemView → Type 0
AreOf p items = All (λ i. i.program ≡ p) items

-- the prefix runs in the program
abbrev pub IsItem : ItemView → Type 0
IsItem i = runs i.program (start i.program) i.prefix ≡ true

-- a complete schedule of the item's program that begins with its prefix
abbrev pub IsScheduleOf : ItemView → List ℕ → Type 0
IsScheduleOf i w =
    (is_complete i.program (start i.program) w ≡ true) × (begins_with i.prefix w ≡ true)

-- the state after an item's prefix
abbrev pub state_of : ItemView → Snapshot
state_of i = state_after i.program (start i.program) i.prefix

-- what sleep sets leave of the complete schedules that begin with an item's prefix, where the
-- threads of its mask sleep after the prefix
abbrev pub kept_schedules : ItemView → List (List ℕ)
kept_schedules i =
    map (λ w. i.prefix ++ w)
    (reduced_schedules i.program (state_after i.program (start i.program) i.prefix) (has i.mask))

-- the complete schedules that begin with an item's prefix and go on without a step of a hidden
-- thread, where the thread of the step before is never hidden, and hides nobody
abbrev pub unhidden_schedules : ItemView → List (List ℕ)
unhidden_schedules i =
    map (λ w. i.prefix ++ w) (complete_once i.program (state_of i) (last_of i.prefix))

-- what sleep sets leave of the complete schedules that begin with an item's prefix and go on without
-- a step of a hidden thread, which the thread of the step before may be too
abbrev pub unhidden_kept : ItemView → List (List ℕ)
unhidden_kept i = map (λ w. i.prefix ++ w) (reduced_once i.program (state_of i) (has i.mask))

-- the schedules of an item in a mode: of the complete ones that begin with its prefix, those within
-- the bound, or those that sleep sets leave; where equal threads are once, only those that go on
-- without a step of a hidden thread
abbrev pub schedules_of : Mode → ItemView → List (List ℕ)
schedules_of (Bounded bound) i = schedules_within i.program i.prefix bound
schedules_of Reduced i = kept_schedules i
schedules_of (BoundedOnce bound) i =
    filter (λ w. nat_le (preemptions i.program w) bound) (unhidden_schedules i)
schedules_of ReducedOnce i = unhidden_kept i

-- all of these, also those past the bound
abbrev pub everything : Mode → ItemView → List (List ℕ)
everything (Bounded bound) i = schedules_under i.program i.prefix
everything Reduced i = kept_schedules i
everything (BoundedOnce bound) i = unhidden_schedules i
everything ReducedOnce i = unhidden_kept i

-- whether one of all these is beyond the bound; without a bound none is
abbrev pub goes_beyond : Mode → ItemView → Bool
goes_beyond (Bounded bound) i = exceeds_bound i.program i.prefix bound
goes_beyond Reduced i = false
goes_beyond (BoundedOnce bound) i =
    list_any (λ w. nat_lt bound (preemptions i.program w)) (unhidden_schedules i)
goes_beyond ReducedOnce i = false

-- the sum of an item's schedules
abbrev pub item_sum : Mode → ItemView → SummaryView
item_sum mode i = with_beyond (sum_of i.program (schedules_of mode i)) (goes_beyond mode i)

-- the sums of these items as one
abbrev pub item_sums : Mode → List ItemView → SummaryView
item_sums mode [] = nothing
item_sums mode (i ∷ is) = join (item_sum mode i) (item_sums mode is)

-- the sum of all schedules of a program
abbrev pub whole : Program → Mode → SummaryView
whole p mode = item_sum mode (root_of p)

-- how many schedules these items have
abbrev pub schedule_count : Mode → List ItemView → ℕ
schedule_count mode [] = 0
schedule_count mode (i ∷ is) = length (schedules_of mode i) + schedule_count mode is

-- how many of these items a schedule lies under
abbrev pub covers : List ℕ → List ItemView → ℕ
covers w [] = 0
covers w (i ∷ is) = one_if (begins_with i.prefix w) + covers w is

-- whether it lies under one of them
abbrev pub is_under : List ItemView → List ℕ → Bool
is_under items w = list_any (λ i. begins_with i.prefix w) items
