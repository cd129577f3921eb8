-- Parts of a search: what makes them honest, what they tell, and what is wrong with them.
use Rattle.std.specs.Prelude.{◌≡◌, ◌≢◌, ◌⊎◌, ◌≤◌, ◌<◌, ℕ, true, false, is_some, not, Bool, List, []}
use Rattle.std.specs.Prelude.{◌∷◌, map, filter, All, Contains, Option, Some, None, IfSome}
use Rattle.std.specs.List.{AllZip}
use Rattle.guest_code.specs.Program.{Program}
use Rattle.semantics_schedules.specs.Schedules.{begins_with, preemptions}
use Rattle.walk_items.specs.{Items.{ItemView, item_sum}, declared.mode.Mode.Mode}
use Rattle.walk_items.specs.declared.mode.Mode.TheVariants.{Bounded, Reduced}
use Rattle.walk_summary.specs.Summaries.{SummaryView, nothing, join}
use Rattle.walk_cover.specs.{CoverBy.{IsCoverBy, IsMissing, AreNested, IsUnused}, Under.IsUnder}
use Rattle.walk_cover.specs.declared.covering.CoverError.{CoverError}
use Rattle.walk_cover.specs.declared.covering.CoverError.TheVariants.{Missing as NoneUnder, Nested as NestedIn, Unused as NoUse, OutOfMemory as NoMemory}
use Rattle.runner_report.specs.{Reports.IsBadSchedule, declared.level.Level.Level}
use Rattle.runner_report.specs.declared.{limits.TheConstants.QUOTA, options.Options.Options}
use Rattle.runner_report.specs.declared.options.Search.{Search, TheVariants.{UpTo, Unbounded}}
use Rattle.runner_parts.specs.declared.part.Part.{Part}
use Rattle.runner.specs.Levels.{IsModeOf, GoesOn}
use Rattle.runner_joining.specs.declared.error.JoinError.{JoinError}
use Rattle.runner_joining.specs.declared.error.JoinError.TheVariants.{Missing, Nested, Unused, Lacks, Cut, Disagree, Untrue, OutOfMemory}
use Rattle.runner_joining.specs.declared.error.PartPlace.{PartPlace}

-- the mode of a bound, or of none
abbrev pub mode_at : Option ℕ → Mode
mode_at (Some bound) = Bounded bound
mode_at None = Reduced

-- the last mode of a search
abbrev pub last_mode : Search → Mode
last_mode (UpTo last) = Bounded last
last_mode Unbounded = Reduced

-- a part that was not cut short is the sum of what is under its prefix at its bound
abbrev pub IsHonest : Program → Part → Type 0
IsHonest p x = x.level.cause ≡ None → (i : ItemView) →
    IsUnder (mode_at x.level.bound) p x.under.items i →
    x.level.summary ≡ item_sum (mode_at x.level.bound) i

-- the schedule is within the bound, if there is one
abbrev pub IsWithinBound : Program → Option ℕ → List ℕ → Type 0
IsWithinBound p (Some bound) w = preemptions p w ≤ bound
IsWithinBound p None w = Unit {0}

-- the schedule that the part tells, if it tells one, is bad, lies under its prefix, and is within
-- its bound
pub record IsTrueOf (p : Program) (x : Part) (w : List ℕ) : Type 0 where
  pub bad : IsBadSchedule p w
  pub under : begins_with x.under.items w ≡ true
  pub within : IsWithinBound p x.level.bound w

abbrev pub IsTrue : Program → Part → Type 0
IsTrue p x = (w : List ℕ) → x.level.summary.first_bad ≡ Some w → IsTrueOf p x w

-- what was found at a bound is what there is at each greater one: nothing was beyond
pub record IsSettled (asked : Option ℕ) (l : Level) : Type 0 where
  pub at : ℕ
  pub later : ℕ
  pub is : l.bound ≡ Some at
  pub greater : asked ≡ Some later
  pub least : at ≤ later
  pub beyond : l.summary.beyond ≡ false
  pub none : l.summary.first_bad ≡ None

-- the part, which was not cut short, tells what is under the prefix at the bound
pub record Tells (prefix : List ℕ) (asked : Option ℕ) (x : Part) : Type 0 where
  pub under : x.under.items ≡ prefix
  pub whole : x.level.cause ≡ None
  pub bound : (x.level.bound ≡ asked) ⊎ IsSettled asked x.level

-- the prefixes of the parts that a search can use: with a bound, or without
abbrev pub has_bound : Search → Part → Bool
has_bound (UpTo last) x = is_some x.level.bound
has_bound Unbounded x = not (is_some x.level.bound)

abbrev pub prefixes_for : Search → List Part → List (List ℕ)
prefixes_for search parts = map (λ x. x.under.items) (filter (has_bound search) parts)

-- the sums of these parts as one
abbrev pub sum_told : List Part → SummaryView
sum_told [] = nothing
sum_told (x ∷ xs) = join x.level.summary (sum_told xs)

-- for each of the items a part tells what is under its prefix at the bound, and this is the sum of
-- what these tell
pub record AreTold (parts : List Part) (bound : Option ℕ) (items : List ItemView)
    (sum : SummaryView) : Type 0 where
  pub told : List Part
  pub each : AllZip (λ i x. Contains parts x × Tells i.prefix bound x) items told
  pub is : sum ≡ sum_told told

-- as the parts tell, the search goes on after the bound
pub record GoesOnAt (p : Program) (search : Search) (parts : List Part) (bound : Option ℕ) :
    Type 0 where
  pub items : List ItemView
  pub cover : IsCoverBy (last_mode search) p (prefixes_for search parts) items
  pub sum : SummaryView
  pub told : AreTold parts bound items sum
  pub on : GoesOn search (mode_at bound) sum

-- the search comes to the bound: as the parts tell, it goes on after each lower one
pub record ComesTo (p : Program) (search : Search) (parts : List Part) (bound : Option ℕ) :
    Type 0 where
  pub of : IsModeOf false search (mode_at bound)
  pub on : IfSome bound (λ b. (a : ℕ) → a < b → GoesOnAt p search parts (Some a))

-- each part of a bound that the search comes to is honest
abbrev pub AreHonest : Program → Search → List Part → Type 0
AreHonest p search parts =
    All (λ x. ComesTo p search parts x.level.bound → IsHonest p x) parts

-- the search comes to the bound, and no part tells what is under the prefix there
pub record IsLacking (p : Program) (search : Search) (parts : List Part) (prefix : List ℕ)
    (bound : Option ℕ) : Type 0 where
  pub comes : ComesTo p search parts bound
  pub listed : Contains (prefixes_for search parts) prefix
  pub none : All (λ x. Tells prefix bound x → ⊥) parts

-- the part is of this place
pub record IsOfPlace (place : PartPlace) (x : Part) : Type 0 where
  pub under : x.under.items ≡ place.under.items
  pub bound : x.level.bound ≡ place.bound

-- two parts of one place that were not cut short have different sums
pub record Differ (one other : Part) : Type 0 where
  pub under : one.under.items ≡ other.under.items
  pub bound : one.level.bound ≡ other.level.bound
  pub one_whole : one.level.cause ≡ None
  pub other_whole : other.level.cause ≡ None
  pub apart : one.level.summary ≢ other.level.summary

-- two of the parts, which are of the place, differ
pub record AreApart (parts : List Part) (place : PartPlace) : Type 0 where
  pub one : Part
  pub other : Part
  pub first : Contains parts one
  pub second : Contains parts other
  pub of : IsOfPlace place one
  pub differ : Differ one other

-- what is so of all parts that join: each schedule that one tells is true, no two differ, and the
-- prefixes of those that the search can use cover the program
pub record AreTested (p : Program) (search : Search) (parts : List Part) : Type 0 where
  pub schedules : All (IsTrue p) parts
  pub agree : (place : PartPlace) → AreApart parts place → ⊥
  pub items : List ItemView
  pub cover : IsCoverBy (last_mode search) p (prefixes_for search parts) items

-- what is wrong with the prefixes
abbrev pub of_cover : CoverError → JoinError
of_cover (NoneUnder v) = Missing v
of_cover (NestedIn v w) = Nested v w
of_cover (NoUse v) = Unused v
of_cover NoMemory = OutOfMemory

-- what a search as far as this is asked for: all, without a limit
abbrev pub options_of : Search → Options
options_of search =
    record { search = search; limit = None; quota = QUOTA; quick = false; symmetry = false }

-- what an error says of the parts
abbrev pub JoinErrorMeans : Program → Search → List Part → JoinError → Type 0
JoinErrorMeans p search parts (Missing v) =
    IsMissing (last_mode search) p (prefixes_for search parts) v.items
JoinErrorMeans p search parts (Nested v w) =
    AreNested (prefixes_for search parts) v.items w.items
JoinErrorMeans p search parts (Unused v) =
    IsUnused (last_mode search) p (prefixes_for search parts) v.items
JoinErrorMeans p search parts (Lacks place) =
    IsLacking p search parts place.under.items place.bound
JoinErrorMeans p search parts (Cut place) =
    IsLacking p search parts place.under.items place.bound
    × ((x : Part) × Contains parts x × IsOfPlace place x × (x.level.cause ≢ None))
JoinErrorMeans p search parts (Disagree place) = AreApart parts place
JoinErrorMeans p search parts (Untrue place) =
    (x : Part) × Contains parts x × IsOfPlace place x × (IsTrue p x → ⊥)
JoinErrorMeans p search parts OutOfMemory = Unit {0}
