-- What is known of workers that have rounds of their own.
use Rattle.std.specs.Prelude.{◌≡◌, ◌≤◌, ℕ, Bool, true, Option, None, length}
use Rattle.guest_code.specs.Program.{Program}
use Rattle.walk_summary.specs.Summaries.{SummaryView}
use Rattle.book.specs.{ItemLists.{ListView, all_of}, Lending.IsLoanOf}
use Rattle.book.specs.declared.limits.TheConstants.{ROUND}
use Rattle.runner_report.specs.Reports.{IsReached}

-- a worker was lent these items of the program: a round of its own
pub record IsLent (p : Program) (loan : ListView) : Type 0 where
  pub of : IsLoanOf p loan
  pub few : length (all_of p loan) ≤ ROUND

-- more is lent where this is finished: the limit is not reached, and a quick search has found no bad
-- schedule
abbrev pub MayLend : Option ℕ → Bool → SummaryView → Type 0
MayLend limit quick finished =
    (IsReached limit finished → ⊥) × (quick ≡ true → finished.first_bad ≡ None)
