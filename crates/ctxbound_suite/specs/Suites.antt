-- What a suite answers for the text of a file.
use Rattle.std.specs.Prelude.{◌≡◌, ◌⊎◌, ℕ, List, Bool, true, false, not, ◌&&◌, nat_eq, min, Option}
use Rattle.std.specs.Prelude.{Some, None, Result, MatchResult}
use Rattle.walk_items.specs.declared.limits.TheConstants.{BOUND}
use Rattle.guest_code.specs.Program.{Program}
use Rattle.runner_report.specs.{Reports.NoBadBelow, Texts.{IsProgramOf, ExploreErrorMeans}}
use Rattle.runner_report.specs.declared.error.ExploreError.{ExploreError}
use Rattle.runner_report.specs.declared.options.Search.TheVariants.{UpTo, Unbounded}
use Rattle.runner_report.specs.declared.report.Verdict.{Verdict}
use Rattle.ctxbound_answers.specs.declared.limits.Limits.{Limits}
use Rattle.ctxbound_suite.specs.Shown.{options_of, is_cut_short, clean_below, IsFound}
use Rattle.ctxbound_suite.specs.declared.found.{BadSchedule.BadSchedule, Found.Found}
use Rattle.ctxbound_suite.specs.declared.entry.Outcome.{Outcome}
use Rattle.ctxbound_suite.specs.declared.entry.Outcome.TheVariants.{Searched as Ended, Refused, Unclear, Unread}
use Rattle.ctxbound_suite.specs.declared.searches.SearchResult.{SearchResult}

-- the search without a bound says all that is to be told: it came to its end, and found no bad
-- schedule or one without a preemption
abbrev pub needs_none : Option BadSchedule → Bool
needs_none None = true
needs_none (Some b) = nat_eq b.preemptions 0

abbrev pub needs_no_second : Verdict → Option BadSchedule → Bool
needs_no_second v bad = not (is_cut_short v) && needs_none bad

-- how far the second search goes: to the preemptions of the schedule that the first one found, or up
-- to the bound
abbrev pub second_bound : ℕ → Option BadSchedule → ℕ
second_bound bound None = bound
second_bound bound (Some b) = min b.preemptions BOUND

-- of two searches the one that is told: the second, unless the first alone found a bad schedule
abbrev pub told_of : Found → Option BadSchedule → Found → Option BadSchedule → Found
told_of first (Some b) second None = first
told_of first known second found = second

abbrev pub told_search : Found → Found → Found
told_search first second = told_of first first.bad second second.bad

-- the search without a bound is told
pub record IsOfOne (p : Program) (l : Limits) (s : SearchResult) : Type 0 where
  pub first : IsFound p (options_of Unbounded l.limit) s.found
  pub enough : needs_no_second s.found.report.verdict s.found.bad ≡ true
  pub clear : s.clear ≡ 0

-- a second search was made, and one of both is told
pub record IsOfTwo (p : Program) (l : Limits) (s : SearchResult) : Type 0 where
  pub first : Found
  pub unbounded : IsFound p (options_of Unbounded l.limit) first
  pub more : needs_no_second first.report.verdict first.bad ≡ false
  pub second : Found
  pub bounded : IsFound p (options_of (UpTo (second_bound l.bound first.bad)) l.limit) second
  pub told : s.found ≡ told_search first second
  pub clear : s.clear ≡ clean_below second.report

-- the text spells a program; this is told of its searches, and no bad schedule has fewer preemptions
-- than it says
pub record IsSearched (text : List ℕ) (l : Limits) (s : SearchResult) : Type 0 where
  pub program : Program
  pub is_program : IsProgramOf text program
  pub searches : IsOfOne program l s ⊎ IsOfTwo program l s
  pub none_below : NoBadBelow program s.clear

-- what the searches of a text answer
abbrev pub SearchMeans : List ℕ → Limits → Result SearchResult ExploreError → Type 0
SearchMeans text l result =
    MatchResult result (IsSearched text l) (ExploreErrorMeans text)

-- what became of a file that has this text
abbrev pub OutcomeMeans : List ℕ → Limits → Outcome → Type 0
OutcomeMeans text l (Ended s) = IsSearched text l s
OutcomeMeans text l (Refused e) = ExploreErrorMeans text e
OutcomeMeans text l (Unclear line) = Unit {0}
OutcomeMeans text l (Unread cause) = ⊥
