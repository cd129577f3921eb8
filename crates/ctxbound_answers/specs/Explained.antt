-- Which schedule of a program is explained, and the status that the program ends with.
use Rattle.std.specs.Prelude.{◌≡◌, ◌&&◌, not, nat_eq, if◌then◌else◌, ℕ, List, Bool, true, false}
use Rattle.std.specs.Prelude.{Option, Some, None, Result, MatchResult, String, string_bytes}
use Rattle.std.specs.Prelude.{option_map}
use Rattle.std.specs.declared.alloc.Global.{Global}
use Rattle.guest_code.specs.Program.{Program}
use Rattle.semantics.specs.declared.view.Kind.{Kind}
use Rattle.explain_run.specs.{Explains.Explains, declared.explanation.Explanation.Explanation}
use Rattle.replay.specs.Spelling.{Spells}
use Rattle.walk_items.specs.declared.limits.TheConstants.{BOUND}
use Rattle.runner_report.specs.{Promises.IsReport, ReportText.named_schedule, Texts.IsProgramOf}
use Rattle.runner_report.specs.declared.options.{Options.Options, Search.Search}
use Rattle.runner_report.specs.declared.options.Search.TheVariants.{UpTo, Unbounded}
use Rattle.runner_report.specs.declared.report.{Report.Report, Verdict.Verdict}
use Rattle.runner_report.specs.declared.report.Verdict.TheVariants.{Clean, Bad, Incomplete}
use Rattle.ctxbound_answers.specs.{Answer.FaultMeans, Status.{replay_status, verdict_status}}
use Rattle.ctxbound_answers.specs.declared.{answer.Printed.Printed, fault.Fault.Fault}
use Rattle.ctxbound_answers.specs.declared.fault.Fault.TheVariants.{Replay}
use Rattle.ctxbound_answers.specs.declared.request.ExplainRequest.{ExplainRequest}
use Rattle.ctxbound_answers.specs.declared.explained.Explained.{Explained}
use Rattle.ctxbound_answers.specs.declared.explained.Explained.TheVariants.{Asked, Found, NoneFound}

-- the status after an explanation: that of a replay, which refuses a schedule that can't go on
abbrev pub explained_status : Option ℕ → Option Kind → ℕ
explained_status (Some thread) kind = 2
explained_status None kind = replay_status kind

-- the status after what is explained, or of the search where it found nothing to explain
abbrev pub told_status : Explained → ℕ
told_status (Asked told) = explained_status told.refused told.kind
told_status (Found report told) = explained_status told.refused told.kind
told_status (NoneFound report) = verdict_status report.verdict

-- the bytes of the schedule's text, if one was given
abbrev pub asked : Option (String Global) → Option (List ℕ)
asked schedule = option_map string_bytes schedule

-- the schedule that this text spells is explained
pub record IsAsked (p : Program) (text : List ℕ) (told : Explanation) : Type 0 where
  pub steps : List ℕ
  pub spelt : Spells text steps
  pub explains : Explains p steps told

-- the schedule that this report names is explained, if it names one
abbrev pub IsOfReport : Program → Report → Explained → Type 0
IsOfReport p report (Found r told) =
    (r ≡ report) × ((w : List ℕ) × (named_schedule report ≡ Some w) × Explains p w told)
IsOfReport p report (NoneFound r) = (r ≡ report) × (named_schedule report ≡ None)
IsOfReport p report (Asked told) = ⊥

-- whether it is left open if a schedule is bad: none is named, and it isn't said that none is
abbrev pub leaves_open : Option (List ℕ) → Verdict → Bool
leaves_open (Some w) v = false
leaves_open None (Clean all) = not all
leaves_open None (Bad k w kind) = false
leaves_open None (Incomplete cause finished) = true

abbrev pub is_open : Report → Bool
is_open r = leaves_open (named_schedule r) r.verdict

-- whether another search follows one with this report: only where that went up to the greatest bound
abbrev pub is_followed : Search → Report → Bool
is_followed (UpTo last) r = nat_eq last BOUND && is_open r
is_followed Unbounded r = false

-- the same search without a bound
abbrev pub without_bound : Options → Options
without_bound o = record o { search = Unbounded }

-- of both reports the second is told, unless it leaves open what the first one does
abbrev pub told_report : Report → Report → Report
told_report near far = if is_open far then near else far

-- the report of a search is told, or, where one without a bound follows, one of both
abbrev pub IsTold : Program → Options → Bool → Report → Report → Type 0
IsTold p o false near report = report ≡ near
IsTold p o true near report =
    (far : Report) × IsReport false p (without_bound o) far × (report ≡ told_report near far)

abbrev pub IsSearchedBy : Program → Options → Report → Type 0
IsSearchedBy p o report =
    (near : Report) × IsReport false p o near × IsTold p o (is_followed o.search near) near report

-- with equal threads once or not
abbrev pub IsSearched : Program → Options → Report → Type 0
IsSearched p o report = (once : Bool) × IsSearchedBy p (record o { symmetry = once }) report

-- the schedule that was asked for is explained, or where none was, the one that a search reports
abbrev pub IsOf : Program → Options → Option (String Global) → Explained → Type 0
IsOf p o (Some text) (Asked told) = IsAsked p (string_bytes text) told
IsOf p o (Some text) other = ⊥
IsOf p o None explained =
    (report : Report) × IsSearched p o report × IsOfReport p report explained

abbrev pub IsExplained : Program → ExplainRequest → Explained → Type 0
IsExplained p request explained = IsOf p request.search.options request.schedule explained

-- the text spells a program, and what was asked for is explained; the status is that of what is
-- explained
pub record IsExplanationOf (text : List ℕ) (request : ExplainRequest) (a : Printed)
    : Type 0 where
  pub program : Program
  pub is_program : IsProgramOf text program
  pub explained : Explained
  pub explains : IsExplained program request explained
  pub status : a.status ≡ told_status explained

-- why nothing is explained: what is wrong with the text, or with that of the schedule. A schedule that
-- can't go on is explained
abbrev pub ExplainFaultMeans : List ℕ → Option (List ℕ) → Fault → Type 0
ExplainFaultMeans text schedule (Replay e) = ⊥
ExplainFaultMeans text schedule fault = FaultMeans text schedule fault

-- what is answered to a request for this text
abbrev pub ExplainMeans : List ℕ → ExplainRequest → Result Printed Fault → Type 0
ExplainMeans text request result = MatchResult result
    (IsExplanationOf text request) (ExplainFaultMeans text (asked request.schedule))
