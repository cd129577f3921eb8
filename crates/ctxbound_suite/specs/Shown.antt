-- What a search shows of the schedules of its program.
use Rattle.std.specs.Prelude.{◌≡◌, ℕ, ◌+◌, List, Bool, true, false, Option, Some, None}
use Rattle.guest_code.specs.Program.{Program}
use Rattle.semantics_schedules.specs.Schedules.{preemptions}
use Rattle.walk_summary.specs.Summaries.{end_kind}
use Rattle.runner_report.specs.{Promises.IsReport, ReportText.named_schedule}
use Rattle.runner_report.specs.Reports.{IsBadSchedule, NoBadBelow}
use Rattle.runner_report.specs.declared.{limits.TheConstants.QUOTA, options.Options.Options}
use Rattle.runner_report.specs.declared.options.Search.{Search, TheVariants.{UpTo, Unbounded}}
use Rattle.runner_report.specs.declared.report.{Report.Report, Verdict.Verdict}
use Rattle.runner_report.specs.declared.report.Verdict.TheVariants.{Clean, Bad, Incomplete}
use Rattle.ctxbound_suite.specs.declared.found.{BadSchedule.BadSchedule, Found.Found}

-- a search as far as this that is cut short at the limit
abbrev pub options_of : Search → ℕ → Options
options_of s l =
    record { search = s; limit = Some l; quota = QUOTA; quick = false; symmetry = false }

-- no complete schedule fails or gets stuck
abbrev pub IsRight : Program → Type 0
IsRight p = (w : List ℕ) → IsBadSchedule p w → ⊥

-- a bad schedule, with its preemptions and how it ends
pub record IsBadOf (p : Program) (b : BadSchedule) : Type 0 where
  pub bad : IsBadSchedule p b.steps.items
  pub count : b.preemptions ≡ preemptions p b.steps.items
  pub ends : b.kind ≡ end_kind p b.steps.items

-- the bad schedule that a report names, if it names one
abbrev pub IsNamedBad : Program → Option (List ℕ) → Option BadSchedule → Type 0
IsNamedBad p None bad = bad ≡ None
IsNamedBad p (Some w) None = ⊥
IsNamedBad p (Some w) (Some b) = (b.steps.items ≡ w) × IsBadOf p b

-- whether a search found no bad schedule as far as it was to go, of all schedules, or was cut short
abbrev pub is_clean : Verdict → Bool
is_clean (Clean all) = true
is_clean (Bad k w kind) = false
is_clean (Incomplete cause finished) = false

abbrev pub is_right : Verdict → Bool
is_right (Clean all) = all
is_right (Bad k w kind) = false
is_right (Incomplete cause finished) = false

abbrev pub is_cut_short : Verdict → Bool
is_cut_short (Clean all) = false
is_cut_short (Bad k w kind) = false
is_cut_short (Incomplete cause finished) = true

-- no bad schedule has fewer preemptions than this, by a search that had a bound
abbrev pub clear_of : Option ℕ → Verdict → ℕ
clear_of None v = 0
clear_of (Some bound) (Clean all) = bound + 1
clear_of (Some bound) (Bad k w kind) = k
clear_of (Some bound) (Incomplete cause None) = 0
clear_of (Some bound) (Incomplete cause (Some finished)) = finished + 1

abbrev pub clean_below : Report → ℕ
clean_below r = clear_of r.bound r.verdict

-- as far as a search was to go no schedule is bad
abbrev pub IsRightUpTo : Program → Search → Type 0
IsRightUpTo p (UpTo last) = NoBadBelow p (last + 1)
IsRightUpTo p Unbounded = IsRight p

-- the report of a search as these options say, with equal threads once or not
pub record IsReportOf (p : Program) (o : Options) (r : Report) : Type 0 where
  pub once : Bool
  pub is : IsReport false p (record o { symmetry = once }) r

-- the report of a search, the bad schedule that it names, and what both say of all schedules
pub record IsFound (p : Program) (o : Options) (f : Found) : Type 0 where
  pub report : IsReportOf p o f.report
  pub bad : IsNamedBad p (named_schedule f.report) f.bad
  pub clear : NoBadBelow p (clean_below f.report)
  pub clean : is_clean f.report.verdict ≡ true → IsRightUpTo p o.search
  pub right : is_right f.report.verdict ≡ true → IsRight p

-- a search was cut short and names no schedule
pub record WasCut (p : Program) (o : Options) : Type 0 where
  pub report : Report
  pub of : IsReportOf p o report
  pub cut : is_cut_short report.verdict ≡ true
  pub unnamed : named_schedule report ≡ None

-- the report of a search names this bad schedule
pub record Names (p : Program) (o : Options) (b : BadSchedule) : Type 0 where
  pub found : Found
  pub of : IsFound p o found
  pub named : found.bad ≡ Some b

-- the bad schedule that a search names, or, where it names none, that it was cut short
abbrev pub IsLeft : Program → Options → Option BadSchedule → Type 0
IsLeft p o None = WasCut p o
IsLeft p o (Some b) = Names p o b
