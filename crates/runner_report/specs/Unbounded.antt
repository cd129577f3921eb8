-- What the report of an unbounded search promises, in terms of all complete schedules of its
-- program. That the bad schedule is the first, and the end views, say nothing of sleep sets.
use Rattle.std.specs.Prelude.{◌≡◌, ℕ, Bool, true, false, List, map}
use Rattle.guest_code.specs.Program.{Program}
use Rattle.semantics.specs.{Machine.start, declared.view.Kind.Kind}
use Rattle.semantics_schedules.specs.Order.{precedes, end_of}
use Rattle.semantics_schedules.specs.Schedules.{complete_schedules, preemptions}
use Rattle.walk_items.specs.{Items.whole, Once.pruned}
use Rattle.walk_summary.specs.Summaries.{SummaryView, IsBoundedBy, end_kind, sorted_views}
use Rattle.runner_report.specs.Reports.{IsBadSchedule}

-- the end views are those of all complete schedules; the summary is of what sleep sets leave, with
-- equal threads once or not
pub record IsReducedSummary (once : Bool) (p : Program) (sum : SummaryView) : Type 0 where
  pub ends : sum.ends ≡ sorted_views (map (end_of p) (complete_schedules p (start p)))
  pub summary : sum ≡ whole p (pruned once)

-- what a report's summary says where a bad schedule was found: that of a quick search is only
-- bounded by the summary of what sleep sets leave
abbrev pub IsReducedSummaryOf : Bool → Bool → Program → SummaryView → Type 0
IsReducedSummaryOf false once p sum = IsReducedSummary once p sum
IsReducedSummaryOf true once p sum = IsBoundedBy sum (whole p (pruned once))

-- a bad schedule was found: the first of all
pub record IsFirstBad (quick once : Bool) (p : Program) (sum : SummaryView) (k : ℕ) (w : List ℕ)
    (kind : Kind) : Type 0 where
  pub bad : IsBadSchedule p w
  pub first : (v : List ℕ) → IsBadSchedule p v → precedes v w ≡ false
  pub count : k ≡ preemptions p w
  pub ends : kind ≡ end_kind p w
  pub summary : IsReducedSummaryOf quick once p sum

-- no schedule is bad
pub record HasNoBad (once : Bool) (p : Program) (sum : SummaryView) : Type 0 where
  pub none : (w : List ℕ) → IsBadSchedule p w → ⊥
  pub summary : IsReducedSummary once p sum
