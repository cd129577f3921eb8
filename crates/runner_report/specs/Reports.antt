-- What the report of a search up to a bound promises, in terms of all complete schedules of its
-- program.
use Rattle.std.specs.Prelude.{◌≡◌, ◌↔◌, ◌⊎◌, ℕ, ◌<◌, ◌≤◌, ◌+◌, Bool, true, false, List, [], Option}
use Rattle.std.specs.Prelude.{Some, None, Contains}
use Rattle.guest_code.specs.Program.{Program}
use Rattle.semantics.specs.{Machine.start, declared.view.Kind.Kind}
use Rattle.semantics_schedules.specs.Order.{precedes, ends_badly}
use Rattle.semantics_schedules.specs.Schedules.{complete_schedules, preemptions}
use Rattle.walk_items.specs.{Items.{ItemView, root_of, whole}, Walks.IsSplit}
use Rattle.walk_items.specs.Once.{up_to}
use Rattle.walk_items.specs.declared.mode.Mode.{Mode, TheVariants.{Bounded, Reduced}}
use Rattle.walk_items.specs.declared.mode.Mode.TheVariants.{BoundedOnce, ReducedOnce}
use Rattle.walk_summary.specs.Summaries.{SummaryView, IsBoundedBy, end_kind}
use Rattle.runner_report.specs.declared.options.Search.{Search, TheVariants.{UpTo, Unbounded}}
use Rattle.runner_report.specs.declared.report.Cause.{Cause, TheVariants.{Limit, Stopped}}

-- a complete schedule of the program, which fails or gets stuck
abbrev pub IsBadSchedule : Program → List ℕ → Type 0
IsBadSchedule p w =
    Contains (complete_schedules p (start p)) w × (ends_badly p (start p) w ≡ true)

-- no bad schedule has fewer preemptions
abbrev pub NoBadBelow : Program → ℕ → Type 0
NoBadBelow p k = (w : List ℕ) → IsBadSchedule p w → k ≤ preemptions p w

-- some complete schedule has more preemptions
abbrev pub SomeExceeds : Program → ℕ → Type 0
SomeExceeds p bound =
    (w : List ℕ) × Contains (complete_schedules p (start p)) w × (bound < preemptions p w)

-- the schedule is bad, no bad one has fewer preemptions, and it is the first of those with as many
pub record IsFirstOfFewest (p : Program) (k : ℕ) (w : List ℕ) : Type 0 where
  pub bad : IsBadSchedule p w
  pub count : preemptions p w ≡ k
  pub fewest : NoBadBelow p k
  pub first : (v : List ℕ) → IsBadSchedule p v → preemptions p v ≡ k → precedes v w ≡ false

-- the end views are those of all schedules within the bound; the counts are of those that are tried,
-- with equal threads once or not
pub record IsSummaryAt (once : Bool) (p : Program) (bound : ℕ) (sum : SummaryView) : Type 0 where
  pub ends : sum.ends ≡ (whole p (Bounded bound)).ends
  pub summary : sum ≡ whole p (up_to once bound)

-- what a report's summary says where a bad schedule was found: that of a quick search is only
-- bounded by the summary of what is tried
abbrev pub IsBadSummary : Bool → Bool → Program → ℕ → SummaryView → Type 0
IsBadSummary false once p bound sum = IsSummaryAt once p bound sum
IsBadSummary true once p bound sum = IsBoundedBy sum (whole p (up_to once bound))

-- a bad schedule was found: the first of those with fewest preemptions
pub record IsBad (quick once : Bool) (p : Program) (last bound : ℕ) (sum : SummaryView)
    (k : ℕ) (w : List ℕ) (kind : Kind) : Type 0 where
  pub at : bound ≡ k
  pub low : k ≤ last
  pub first : IsFirstOfFewest p k w
  pub ends : kind ≡ end_kind p w
  pub summary : IsBadSummary quick once p k sum

-- no bad schedule is within the bound that was asked for; the search ended there, or at the least
-- bound that no schedule exceeds
pub record IsClean (once : Bool) (p : Program) (last bound : ℕ) (sum : SummaryView) (all : Bool) :
    Type 0 where
  pub none : NoBadBelow p (last + 1)
  pub summary : IsSummaryAt once p bound sum
  pub within : (all ≡ true) ↔ (SomeExceeds p bound → ⊥)
  pub low : bound ≤ last
  pub ended : (bound ≡ last) ⊎ (all ≡ true)
  pub least : (b : ℕ) → b < bound → SomeExceeds p b

-- there are items of the program that its schedules split into beside those of the summary
abbrev pub HasItems : Program → Mode → SummaryView → Type 0
HasItems p mode sum =
    (open_items deferred : List ItemView) × IsSplit mode (root_of p) sum open_items deferred

-- there is a limit, and at least as many schedules were tried
abbrev pub IsReached : Option ℕ → SummaryView → Type 0
IsReached limit sum = (l : ℕ) × (limit ≡ Some l) × (l ≤ sum.tried)

-- why a search was cut short: it was stopped only if it may be
abbrev pub IsCause : Bool → Option ℕ → SummaryView → Cause → Type 0
IsCause may limit sum Limit = IsReached limit sum
IsCause may limit sum Stopped = may ≡ true

-- there is no cause to cut a search short
abbrev pub HasNoCause : Bool → Option ℕ → SummaryView → Type 0
HasNoCause may limit sum = (cause : Cause) → IsCause may limit sum cause → ⊥

-- the last bound that was finished, without a bad schedule
abbrev pub IsFinished : Program → ℕ → Option ℕ → Type 0
IsFinished p bound (Some f) = ((bound ≡ f) ⊎ (bound ≡ f + 1)) × NoBadBelow p (f + 1)
IsFinished p bound None = bound ≡ 0

-- another bound follows that of the mode: this isn't the last, no schedule within it is bad, and
-- some exceed it
abbrev pub IsFollowed : Program → Search → Mode → Type 0
IsFollowed p (UpTo last) (Bounded bound) =
    (bound < last) × NoBadBelow p (bound + 1) × SomeExceeds p bound
IsFollowed p (UpTo last) (BoundedOnce bound) =
    (bound < last) × NoBadBelow p (bound + 1) × SomeExceeds p bound
IsFollowed p (UpTo last) Reduced = ⊥
IsFollowed p (UpTo last) ReducedOnce = ⊥
IsFollowed p Unbounded mode = ⊥

-- a search was cut short in a mode, before its end: an item was open, or another bound follows
pub record IsCutShort (may : Bool) (p : Program) (search : Search) (mode : Mode)
    (limit : Option ℕ) (sum : SummaryView) (cause : Cause) : Type 0 where
  pub items : HasItems p mode sum
  pub left : items.0 ≡ [] → IsFollowed p search mode
  pub why : IsCause may limit sum cause
