-- How a search goes from bound to bound, and what its levels are.
use Rattle.std.specs.Prelude.{◌≡◌, ℕ, ◌<◌, ◌≤◌, ◌+◌, Bool, true, false, List, [], ◌∷◌, ◌++◌, length, Contains, Option, Some, None}
use Rattle.guest_code.specs.Program.{Program}
use Rattle.semantics.specs.Machine.{start}
use Rattle.semantics_schedules.specs.Schedules.{complete_schedules}
use Rattle.walk_items.specs.{Items.{ItemView, item_sum}, Once.up_to, Walks.IsSplit}
use Rattle.walk_items.specs.declared.mode.Mode.{Mode, TheVariants.{Bounded, Reduced}}
use Rattle.walk_items.specs.declared.mode.Mode.TheVariants.{BoundedOnce, ReducedOnce}
use Rattle.walk_summary.specs.Summaries.{SummaryView}
use Rattle.book.specs.Progress.{mode_bound}
use Rattle.runner_report.specs.{Reports.IsCause, declared.level.Level.Level}
use Rattle.runner_report.specs.declared.options.Search.{Search, TheVariants.{UpTo, Unbounded}}
use Rattle.runner_report.specs.declared.report.Cause.{Cause}

-- the search, with equal threads once or not, comes to the mode
abbrev pub IsModeOf : Bool → Search → Mode → Type 0
IsModeOf once (UpTo last) (Bounded bound) = (once ≡ false) × (bound ≤ last)
IsModeOf once (UpTo last) (BoundedOnce bound) = (once ≡ true) × (bound ≤ last)
IsModeOf once (UpTo last) Reduced = ⊥
IsModeOf once (UpTo last) ReducedOnce = ⊥
IsModeOf once Unbounded (Bounded bound) = ⊥
IsModeOf once Unbounded (BoundedOnce bound) = ⊥
IsModeOf once Unbounded Reduced = once ≡ false
IsModeOf once Unbounded ReducedOnce = once ≡ true

-- the mode is the search's last one
abbrev pub IsLast : Search → Mode → Type 0
IsLast (UpTo last) (Bounded bound) = bound ≡ last
IsLast (UpTo last) (BoundedOnce bound) = bound ≡ last
IsLast (UpTo last) Reduced = ⊥
IsLast (UpTo last) ReducedOnce = ⊥
IsLast Unbounded (Bounded bound) = ⊥
IsLast Unbounded (BoundedOnce bound) = ⊥
IsLast Unbounded Reduced = Unit {0}
IsLast Unbounded ReducedOnce = Unit {0}

-- a search that finds this sum of all at this mode goes on to the next bound: nothing is bad,
-- something is beyond, and the mode isn't the last
pub record GoesOn (search : Search) (mode : Mode) (sum : SummaryView) : Type 0 where
  pub none : sum.first_bad ≡ None
  pub beyond : sum.beyond ≡ true
  pub more : IsLast search mode → ⊥

-- the schedule that was found, if any, is a complete one of the program
abbrev pub IsOfProgram : Program → Option (List ℕ) → Type 0
IsOfProgram p found = (w : List ℕ) → found ≡ Some w → Contains (complete_schedules p (start p)) w

-- of the item's schedules within this bound none is bad, and some are beyond it
pub record IsPassed (once : Bool) (i : ItemView) (bound : ℕ) : Type 0 where
  pub none : (item_sum (up_to once bound) i).first_bad ≡ None
  pub beyond : (item_sum (up_to once bound) i).beyond ≡ true

-- each bound below that of the mode is passed
abbrev pub HasPassed : ItemView → Mode → Type 0
HasPassed i (Bounded bound) = (b : ℕ) → b < bound → IsPassed false i b
HasPassed i (BoundedOnce bound) = (b : ℕ) → b < bound → IsPassed true i b
HasPassed i Reduced = Unit {0}
HasPassed i ReducedOnce = Unit {0}

-- the level of a bound that is passed: all that is there
pub record IsPassedLevel (i : ItemView) (bound : ℕ) (l : Level) : Type 0 where
  pub at : l.bound ≡ Some bound
  pub summary : l.summary ≡ item_sum (Bounded bound) i
  pub cause : l.cause ≡ None
  pub passed : IsPassed false i bound

-- those of this bound and of the ones after it
abbrev pub ArePassedFrom : ItemView → ℕ → List Level → Type 0
ArePassedFrom i bound [] = Unit {0}
ArePassedFrom i bound (l ∷ ls) = IsPassedLevel i bound l × ArePassedFrom i (bound + 1) ls

-- the levels of all bounds below that of the mode; none are told where equal threads are once
abbrev pub AreBelow : ItemView → Mode → List Level → Type 0
AreBelow i (Bounded bound) levels = (length levels ≡ bound) × ArePassedFrom i 0 levels
AreBelow i (BoundedOnce bound) levels = ⊥
AreBelow i Reduced levels = levels ≡ []
AreBelow i ReducedOnce levels = ⊥

-- there are items that the item's schedules split into beside those of the summary: one is open, or
-- the search goes on to the next bound
abbrev pub HasItemsOf : Search → Mode → ItemView → SummaryView → Type 0
HasItemsOf search mode i sum =
    (open_items deferred : List ItemView) × IsSplit mode i sum open_items deferred
    × (open_items ≡ [] → GoesOn search mode sum)

-- what the last level says of the item: the sum of all with which the search ends, or of what was
-- tried when it was cut short
abbrev pub IsLastSum : Bool → Search → Option ℕ → Mode → ItemView → Option Cause → SummaryView →
    Type 0
IsLastSum may search limit mode i None sum =
    (sum ≡ item_sum mode i) × (GoesOn search mode sum → ⊥)
IsLastSum may search limit mode i (Some cause) sum =
    IsCause may limit sum cause × HasItemsOf search mode i sum

-- the levels of a search under an item, with a limit or none, which a gate may have stopped or not:
-- bound after bound
pub record AreLevels (may : Bool) (search : Search) (limit : Option ℕ) (i : ItemView)
    (levels : List Level) : Type 0 where
  pub passed : List Level
  pub last : Level
  pub all : levels ≡ passed ++ last ∷ []
  pub mode : Mode
  pub of : IsModeOf false search mode
  pub below : AreBelow i mode passed
  pub bound : last.bound ≡ mode_bound mode
  pub sum : IsLastSum may search limit mode i last.cause last.summary
