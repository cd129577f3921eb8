-- What is told of parts that are joined.
use Rattle.std.specs.Prelude.{◌≡◌, ℕ, List, ◌++◌, codes, false, if◌then◌else◌}
use Rattle.guest_code.specs.Program.{Program}
use Rattle.runner_report.specs.{Promises.IsReport, ReportText.report_text}
use Rattle.runner_report.specs.declared.{options.Search.Search, report.Report.Report}
use Rattle.runner_parts.specs.declared.part.Part.{Part}
use Rattle.runner_joining.specs.{ErrorTexts.needs_work, Parts.{AreHonest, AreTested, options_of}}
use Rattle.runner_joining.specs.declared.error.JoinError.{JoinError}
use Rattle.ctxbound_answers.specs.{Status.verdict_status, declared.answer.Printed.Printed}

-- the text of a report and a line feed, and the status of its verdict; the parts were tested, and
-- where they are honest it is a report of the program
pub record IsJoined (p : Program) (search : Search) (parts : List Part) (printed : Printed) :
    Type 0 where
  pub report : Report
  pub tested : AreTested p search parts
  pub of : AreHonest p search parts → IsReport false p (options_of search) report
  pub output : printed.output.items ≡ report_text report ++ codes "\n"
  pub status : printed.status ≡ verdict_status report.verdict

-- the status of an error: 3 where more parts would help
abbrev pub error_status : JoinError → ℕ
error_status e = if needs_work e then 3 else 2
