-- What a report promises, by what was asked for and how the search ended.
use Rattle.std.specs.Prelude.{◌≡◌, ◌≤◌, ℕ, Bool, true, Some, None}
use Rattle.guest_code.specs.Program.{Program}
use Rattle.walk_items.specs.{Once.{up_to, pruned}, declared.limits.TheConstants.BOUND}
use Rattle.walk_items.specs.declared.mode.Mode.{Mode}
use Rattle.walk_summary.specs.Summaries.{SummaryView}
use Rattle.runner_report.specs.Reports.{IsBad, IsClean, IsCutShort, IsFinished}
use Rattle.runner_report.specs.{Unbounded.{IsFirstBad, HasNoBad}, declared.options.Options.Options}
use Rattle.runner_report.specs.declared.options.Search.{Search, TheVariants.{UpTo, Unbounded}}
use Rattle.runner_report.specs.declared.report.{Report.Report, Verdict.Verdict}
use Rattle.runner_report.specs.declared.report.Verdict.TheVariants.{Clean, Bad, Incomplete}

-- the bound that a search is asked for, if any, is one that there is
abbrev pub IsSearch : Search → Type 0
IsSearch (UpTo last) = last ≤ BOUND
IsSearch Unbounded = Unit {0}

-- the first mode of a search at which something is tried of what is under a prefix with this many
-- preemptions, with equal threads once or not
abbrev pub first_mode : Bool → Search → ℕ → Mode
first_mode once (UpTo last) preemptions = up_to once preemptions
first_mode once Unbounded preemptions = pruned once

-- what a verdict says where a search up to a bound has come to this bound and summary
abbrev pub IsBoundedVerdict : Bool → Program → Options → ℕ → ℕ → SummaryView → Verdict → Type 0
IsBoundedVerdict may p o last bound sum (Clean all) =
    IsClean o.symmetry p last bound sum all
IsBoundedVerdict may p o last bound sum (Bad k w kind) =
    IsBad o.quick o.symmetry p last bound sum k w.items kind
IsBoundedVerdict may p o last bound sum (Incomplete cause finished) =
    (bound ≤ last) × IsCutShort may p (UpTo last) (up_to o.symmetry bound) o.limit sum cause
    × IsFinished p bound finished

-- what a verdict says where an unbounded search has come to this summary
abbrev pub IsUnboundedVerdict : Bool → Program → Options → SummaryView → Verdict → Type 0
IsUnboundedVerdict may p o sum (Clean all) = (all ≡ true) × HasNoBad o.symmetry p sum
IsUnboundedVerdict may p o sum (Bad k w kind) = IsFirstBad o.quick o.symmetry p sum k w.items kind
IsUnboundedVerdict may p o sum (Incomplete cause finished) =
    (finished ≡ None) × IsCutShort may p Unbounded (pruned o.symmetry) o.limit sum cause

-- what a report says of its search
abbrev pub IsReportFor : Bool → Program → Options → Search → Report → Type 0
IsReportFor may p o (UpTo last) r =
    (bound : ℕ) × (r.bound ≡ Some bound) × IsBoundedVerdict may p o last bound r.summary r.verdict
IsReportFor may p o Unbounded r =
    (r.bound ≡ None) × IsUnboundedVerdict may p o r.summary r.verdict

-- the report of a search of the program, which a gate may have stopped or not
abbrev pub IsReport : Bool → Program → Options → Report → Type 0
IsReport may p o r =
    (r.quick ≡ o.quick) × (r.symmetry ≡ o.symmetry) × IsReportFor may p o o.search r

-- the search was not cut short
abbrev pub IsWhole : Verdict → Type 0
IsWhole (Clean all) = Unit {0}
IsWhole (Bad k w kind) = Unit {0}
IsWhole (Incomplete cause finished) = ⊥
