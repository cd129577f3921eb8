-- What a round comes to.
use Rattle.std.specs.Prelude.{◌≡◌, ◌<◌, ◌+◌, ◌-◌, ℕ, [], ◌∷◌, ◌++◌, Bool, false, true, not, nat_lt}
use Rattle.std.specs.Prelude.{Option, Some, None}
use Rattle.std.specs.declared.{alloc.Global.Global, vec.Vec.Vec}
use Rattle.guest_code.specs.Program.{Program}
use Rattle.walk_items.specs.{Items.{ItemView, whole}, Walks.listed_if}
use Rattle.walk_items.specs.declared.mode.Mode.{Mode, TheVariants.{Bounded, Reduced}}
use Rattle.walk_items.specs.declared.mode.Mode.TheVariants.{BoundedOnce, ReducedOnce}
use Rattle.semantics_schedules.specs.Schedules.{preemptions}
use Rattle.walk_summary.specs.Summaries.{SummaryView, IsBoundedBy, end_kind}
use Rattle.book.specs.{Books.BookView, Progress.mode_bound}
use Rattle.runner_report.specs.Reports.{NoBadBelow, SomeExceeds, IsCause, HasNoCause, IsFinished}
use Rattle.runner_report.specs.declared.{level.Level.Level, options.Options.Options}
use Rattle.runner_report.specs.declared.options.Search.{Search, TheVariants.{UpTo, Unbounded}}
use Rattle.runner_report.specs.declared.report.{Cause.Cause, Report.Report, Verdict.Verdict}
use Rattle.runner_report.specs.declared.report.Verdict.TheVariants.{Clean, Bad, Incomplete}
use Rattle.runner.specs.Levels.{IsModeOf, GoesOn, HasPassed, AreBelow}
use Rattle.runner.specs.declared.course.Course.{Course}
use Rattle.runner.specs.declared.judge.{Ending.Ending, Ending.TheVariants.{Whole, Cut}, Next.Next}
use Rattle.runner.specs.declared.judge.Next.TheVariants.{Again, Raise, End}
use Rattle.runner_rounds.specs.Rounds.{IsOf}

-- the bounds below this one were finished without a bad schedule, and some schedule exceeds each
pub record HasPassedBounds (p : Program) (bound : ℕ) : Type 0 where
  pub none : NoBadBelow p bound
  pub past : (b : ℕ) → b < bound → SomeExceeds p b

-- whether what a mode puts off is listed: it is where the search may go on to another bound
abbrev pub lists_at : Search → Mode → Bool
lists_at (UpTo last) (Bounded bound) = nat_lt bound last
lists_at (UpTo last) (BoundedOnce bound) = nat_lt bound last
lists_at (UpTo last) Reduced = false
lists_at (UpTo last) ReducedOnce = false
lists_at Unbounded mode = false

-- a search under an item has come to the mode of its book, and the bounds below are passed
pub record IsAt (i : ItemView) (o : Options) (b : BookView) : Type 0 where
  pub is : IsOf b i b.mode o.quick (lists_at o.search b.mode)
  pub of : IsModeOf o.symmetry o.search b.mode
  pub passed : HasPassed i b.mode

-- these are the levels of the bounds below, where levels are kept at all
abbrev pub AreKept : Bool → ItemView → Mode → Option (Vec Level Global) → Type 0
AreKept keeps i mode (Some levels) = (keeps ≡ true) × AreBelow i mode levels.items
AreKept keeps i mode None = keeps ≡ false

-- what is told of a bound
abbrev pub level_at : Mode → SummaryView → Option Cause → Level
level_at mode sum cause = record { bound = mode_bound mode; summary = sum; cause = cause }

-- the level of a bound that is finished is kept, where levels are
abbrev pub HasKept : BookView → Option (Vec Level Global) → Option (Vec Level Global) → Type 0
HasKept b (Some old) (Some new) = new.items ≡ old.items ++ level_at b.mode b.finished None ∷ []
HasKept b (Some old) None = ⊥
HasKept b None (Some new) = ⊥
HasKept b None None = Unit {0}

-- the search under an item is on its way, and keeps levels or not
pub record IsCourse (i : ItemView) (o : Options) (keeps : Bool) (c : Course) : Type 0 where
  pub options : c.options ≡ o
  pub at : IsAt i o c.book
  pub levels : AreKept keeps i c.book.mode c.levels

-- the book where its bound begins: what it puts off is listed or not
abbrev pub begun : Search → BookView → BookView
begun search b = record b {
  deferred = listed_if (lists_at search b.mode) b.deferred;
  lists = lists_at search b.mode;
}

-- the bound below that of a mode, if there is one
abbrev pub IsBoundBelow : Mode → Option ℕ → Type 0
IsBoundBelow (Bounded bound) (Some below) = bound ≡ below + 1
IsBoundBelow (Bounded bound) None = bound ≡ 0
IsBoundBelow (BoundedOnce bound) (Some below) = bound ≡ below + 1
IsBoundBelow (BoundedOnce bound) None = bound ≡ 0
IsBoundBelow Reduced (Some below) = ⊥
IsBoundBelow Reduced None = Unit {0}
IsBoundBelow ReducedOnce (Some below) = ⊥
IsBoundBelow ReducedOnce None = Unit {0}

-- the last bound that was finished, where a search is cut short in a mode
abbrev pub IsFinishedIn : Program → Mode → Option ℕ → Type 0
IsFinishedIn p (Bounded bound) finished = IsFinished p bound finished
IsFinishedIn p (BoundedOnce bound) finished = IsFinished p bound finished
IsFinishedIn p Reduced finished = finished ≡ None
IsFinishedIn p ReducedOnce finished = finished ≡ None

-- what a summary says of another: that of a quick search is only bounded by it
abbrev pub IsSummaryOf : Bool → SummaryView → SummaryView → Type 0
IsSummaryOf false sum all = sum ≡ all
IsSummaryOf true sum all = IsBoundedBy sum all

-- the summary is that of the whole program in a mode where it has no bad schedule, and else what a
-- search, quick or not, says of the whole
pub record IsFound (quick : Bool) (p : Program) (mode : Mode) (s : SummaryView) : Type 0 where
  pub sum : IsSummaryOf quick s (whole p mode)
  pub clean : s.first_bad ≡ None → s ≡ whole p mode

-- a search of this book ends so: nothing is open and the search doesn't go on, or it is cut short,
-- and not where it would end by itself
abbrev pub Ends : Bool → Options → BookView → Ending → Type 0
Ends may o b Whole = (b.open_items ≡ []) × (GoesOn o.search b.mode b.finished → ⊥)
Ends may o b (Cut cause) =
    IsCause may o.limit b.finished cause
    × (b.open_items ≡ [] → GoesOn o.search b.mode b.finished)

-- why a search is cut short that ends so
abbrev pub ending_cause : Ending → Option Cause
ending_cause Whole = None
ending_cause (Cut cause) = Some cause

-- what comes next after a round
abbrev pub Comes : Bool → Options → BookView → Next → Type 0
Comes may o b (End ending) = Ends may o b ending
Comes may o b Raise =
    (b.open_items ≡ []) × GoesOn o.search b.mode b.finished × HasNoCause may o.limit b.finished
Comes may o b Again = (b.open_items ≡ [] → ⊥) × HasNoCause may o.limit b.finished

-- what comes after all rounds of a bound: the search ends, or another bound
abbrev pub ComesAfter : Options → BookView → Option Ending → Type 0
ComesAfter o b (Some ending) = Ends false o b ending
ComesAfter o b None = Comes false o b Raise

-- a search that was on its way has ended: what its course is then, and how it ends
pub record HasEnded (may : Bool) (c : Course) (r : Course × Ending) : Type 0 where
  pub options : r.0.options ≡ c.options
  pub at : IsAt c.book.of c.options r.0.book
  pub levels : (keeps : Bool) → AreKept keeps c.book.of c.book.mode c.levels →
      AreKept keeps c.book.of r.0.book.mode r.0.levels
  pub ends : Ends may c.options r.0.book r.1

-- how many bounds a search may still come to
abbrev pub bounds_left : Search → Mode → ℕ
bounds_left (UpTo last) (Bounded bound) = last - bound
bounds_left (UpTo last) (BoundedOnce bound) = last - bound
bounds_left (UpTo last) Reduced = 0
bounds_left (UpTo last) ReducedOnce = 0
bounds_left Unbounded mode = 0

-- the verdict on a sum of all: on its bad schedule the preemptions, the schedule itself, and how it
-- ends; without one, whether nothing is beyond
abbrev pub IsVerdictOn : Program → SummaryView → Verdict → Type 0
IsVerdictOn p sum (Bad k schedule kind) =
    (sum.first_bad ≡ Some schedule.items) × (k ≡ preemptions p schedule.items)
    × (kind ≡ end_kind p schedule.items)
IsVerdictOn p sum (Clean all) = (sum.first_bad ≡ None) × (all ≡ not sum.beyond)
IsVerdictOn p sum (Incomplete cause finished) = ⊥

-- the report of a search in a mode
abbrev pub report_in : Options → Mode → SummaryView → Verdict → Report
report_in o mode sum verdict = record {
  bound = mode_bound mode;
  verdict = verdict;
  summary = sum;
  quick = o.quick;
  symmetry = o.symmetry;
}
