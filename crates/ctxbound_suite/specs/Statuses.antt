-- The statuses of a suite and of its files.
use Rattle.std.specs.Prelude.{◌≡◌, ◌≤◌, ◌⊎◌, ℕ, List, Bool, ◌&&◌, ◌||◌, nat_lt, nat_eq}
use Rattle.std.specs.Prelude.{if◌then◌else◌, Option, Some, None}
use Rattle.std.specs.List.{All, Any}
use Rattle.runner_report.specs.declared.error.ExploreError.{ExploreError}
use Rattle.runner_report.specs.declared.error.ExploreError.TheVariants.{Syntax, Check, OutOfMemory}
use Rattle.runner_report.specs.declared.report.Verdict.{Verdict}
use Rattle.runner_report.specs.declared.report.Verdict.TheVariants as verdict
use Rattle.walk_summary.specs.Summaries.{is_failed, is_stuck}
use Rattle.ctxbound_suite.specs.declared.found.BadSchedule.{BadSchedule}
use Rattle.ctxbound_suite.specs.declared.entry.{Entry.Entry, Outcome.Outcome}
use Rattle.ctxbound_suite.specs.declared.entry.Outcome.TheVariants.{Searched, Refused, Unclear, Unread}
use Rattle.ctxbound_suite.specs.declared.expectation.ExpectedVerdict.{ExpectedVerdict}
use Rattle.ctxbound_suite.specs.declared.expectation.ExpectedVerdict.TheVariants.{Bad, BadAt, Failed, Stuck, Clean}

-- 0 where it is so, else 1
abbrev pub one_unless : Bool → ℕ
one_unless so = if so then 0 else 1

-- the status where a bad schedule with as many preemptions was found, none with fewer than `clear` is
-- bad, and those of fewest were expected to have n: 1 where they can't, 0 where they do, 3 where
-- the search didn't go that far
abbrev pub fewest_status : ℕ → ℕ → ℕ → ℕ
fewest_status n preemptions clear =
    if nat_lt preemptions n || nat_lt n clear then 1
    else (if nat_eq n preemptions && nat_eq n clear then 0 else 3)

-- the status of a file where a bad schedule was found, by what was expected
abbrev pub bad_status : Option ExpectedVerdict → BadSchedule → ℕ → ℕ
bad_status None b clear = 1
bad_status (Some Bad) b clear = 0
bad_status (Some (BadAt n)) b clear = fewest_status n b.preemptions clear
bad_status (Some Failed) b clear = one_unless (is_failed b.kind)
bad_status (Some Stuck) b clear = one_unless (is_stuck b.kind)
bad_status (Some Clean) b clear = 1

-- and where none was: 3 if the search was cut short, 0 if that is what was expected, or if nothing was
abbrev pub unfound_status : Option ExpectedVerdict → Verdict → ℕ
unfound_status e (verdict.Incomplete cause finished) = 3
unfound_status (Some Clean) v = 0
unfound_status None v = 0
unfound_status (Some other) v = 1

abbrev pub searched_status : Option ExpectedVerdict → Verdict → Option BadSchedule → ℕ → ℕ
searched_status e v None clear = unfound_status e v
searched_status e v (Some b) clear = bad_status e b clear

-- the status of a refusal: 2, or 4 where memory ran out
abbrev pub refusal_status : ExploreError → ℕ
refusal_status (Syntax e) = 2
refusal_status (Check e) = 2
refusal_status OutOfMemory = 4

-- the status of a file
abbrev pub entry_status : Option ExpectedVerdict → Outcome → ℕ
entry_status e (Searched s) = searched_status e s.found.report.verdict s.found.bad s.clear
entry_status e (Refused error) = refusal_status error
entry_status e (Unclear line) = 2
entry_status e (Unread cause) = 4

abbrev pub status_of : Entry → ℕ
status_of e = entry_status e.expected e.outcome

-- the greatest of these statuses, or 0
pub record IsWorst (statuses : List ℕ) (status : ℕ) : Type 0 where
  pub none_above : All (λ s. s ≤ status) statuses
  pub met : (status ≡ 0) ⊎ Any (λ s. s ≡ status) statuses
