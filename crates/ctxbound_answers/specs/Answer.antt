-- What the program answers to a request, in terms of the bytes of its texts.
use Rattle.std.specs.Prelude.{◌≡◌, ◌⊎◌, ℕ, List, [], ◌++◌, Bool, true, false, codes, if◌then◌else◌}
use Rattle.std.specs.Prelude.{Option, Some, None, Result, MatchResult, string_bytes}
use Rattle.guest_code.specs.Program.{Program}
use Rattle.semantics.specs.{Ends.kind_of, Machine.start}
use Rattle.semantics_schedules.specs.Schedules.{state_after, runs}
use Rattle.replay.specs.{Run.ReplayErrorMeans, Spelling.{Spells, ScheduleErrorMeans}, Trace.Trace}
use Rattle.replay.specs.declared.error.{ReplayError.ReplayError, ScheduleError.ScheduleError}
use Rattle.runner_report.specs.ReportText.{report_text, named_schedule}
use Rattle.runner_report.specs.Texts.{IsProgramOf, IsReportOfText, ExploreErrorMeans}
use Rattle.runner_report.specs.declared.{options.Options.Options, report.Report.Report}
use Rattle.ctxbound_answers.specs.Status.{replay_status, verdict_status}
use Rattle.ctxbound_answers.specs.declared.answer.Printed.{Printed}
use Rattle.ctxbound_answers.specs.declared.exploration.GuestRequest.{GuestRequest}
use Rattle.ctxbound_answers.specs.declared.fault.Fault.{Fault}
use Rattle.ctxbound_answers.specs.declared.fault.Fault.TheVariants.{Text, Schedule, Replay, Memory}
use Rattle.ctxbound_answers.specs.declared.exploration.GuestRequest.TheVariants as request

-- the schedule runs; its trace is printed, and the status is that of how it ends
pub record Replays (p : Program) (w : List ℕ) (a : Printed) : Type 0 where
  pub runs : runs p (start p) w ≡ true
  pub output : a.output.items ≡ Trace p w
  pub status : a.status ≡ replay_status (kind_of p (state_after p (start p) w))

-- the text spells a program, and the schedule's text a schedule, which is replayed
pub record IsReplayOf (text schedule : List ℕ) (a : Printed) : Type 0 where
  pub program : Program
  pub is_program : IsProgramOf text program
  pub steps : List ℕ
  pub spelt : Spells schedule steps
  pub replays : Replays program steps a

-- the trace of a schedule, if there is one
abbrev pub trace_of : Program → Option (List ℕ) → List ℕ
trace_of p None = []
trace_of p (Some w) = Trace p w

-- the text spells a program, and this is the report of a search of it: its text is printed, a line
-- feed, and where that is asked for the trace of the schedule that it names, if any; the status is
-- that of its verdict
pub record IsExplorationOf (text : List ℕ) (o : Options) (traced : Bool) (a : Printed)
    : Type 0 where
  pub report : Report
  pub of_text : IsReportOfText false text o report
  pub output : a.output.items ≡ report_text report ++ codes "\n"
      ++ trace_of of_text.program (if traced then named_schedule report else None)
  pub status : a.status ≡ verdict_status report.verdict

-- the text spells a program, and this is what is wrong with the schedule's text
pub record IsNoSchedule (text schedule : List ℕ) (e : ScheduleError) : Type 0 where
  pub program : Program
  pub is_program : IsProgramOf text program
  pub refused : ScheduleErrorMeans schedule e

-- the text spells a program, the schedule's text a schedule, and this is why it doesn't run
pub record IsNoRun (text schedule : List ℕ) (e : ReplayError) : Type 0 where
  pub program : Program
  pub is_program : IsProgramOf text program
  pub steps : List ℕ
  pub spelt : Spells schedule steps
  pub refused : ReplayErrorMeans program steps e

-- what a fault says of the text, and of the schedule's text, if one was given; no file is touched
abbrev pub FaultMeans : List ℕ → Option (List ℕ) → Fault → Type 0
FaultMeans text w (Text e) = ExploreErrorMeans text e
FaultMeans text (Some w) (Schedule e) = IsNoSchedule text w e
FaultMeans text (Some w) (Replay e) = IsNoRun text w e
FaultMeans text w Memory = Unit {0}
FaultMeans text w other = ⊥

-- the report of a search names a schedule, and this is what is wrong with its replay
pub record IsNoTrace (text : List ℕ) (o : Options) (fault : Fault) : Type 0 where
  pub report : Report
  pub of_text : IsReportOfText false text o report
  pub steps : List ℕ
  pub named : named_schedule report ≡ Some steps
  pub error : ReplayError
  pub refused : ReplayErrorMeans of_text.program steps error
  pub same : fault ≡ Replay error

-- why a search prints nothing: a fault of the text, or else the report names a schedule that can't be
-- replayed, which its promise rules out
abbrev pub ExplorationFaultMeans : List ℕ → Options → Bool → Fault → Type 0
ExplorationFaultMeans text o traced fault =
    FaultMeans text None fault ⊎ ((traced ≡ true) × IsNoTrace text o fault)

-- what a replay answers for these two texts
abbrev pub ReplayMeans : List ℕ → List ℕ → Result Printed Fault → Type 0
ReplayMeans text w result = MatchResult result (IsReplayOf text w) (FaultMeans text (Some w))

-- what a search answers for this text
abbrev pub ExplorationMeans : List ℕ → Options → Bool → Result Printed Fault → Type 0
ExplorationMeans text o traced result =
    MatchResult result (IsExplorationOf text o traced) (ExplorationFaultMeans text o traced)

-- what is answered to a request for this text
abbrev pub Means : GuestRequest → List ℕ → Result Printed Fault → Type 0
Means (request.Replay schedule) text result = ReplayMeans text (string_bytes schedule) result
Means (request.Explore e) text result = ExplorationMeans text e.options false result
Means (request.Trace e) text result = ExplorationMeans text e.options true result
