-- What two reports say alike.
use Rattle.std.specs.Prelude.{◌≡◌}
use Rattle.runner_report.specs.ReportText.{verdict_members}
use Rattle.runner_report.specs.declared.report.Report.{Report}

-- the same bound, end views and verdict, with its schedule, preemptions and kind: all that a report
-- says but for the counts of the schedules that were tried
pub record SayTheSame (r s : Report) : Type 0 where
  pub bound : r.bound ≡ s.bound
  pub ends : r.summary.ends ≡ s.summary.ends
  pub verdict : verdict_members r.summary.first_bad r.verdict
      ≡ verdict_members s.summary.first_bad s.verdict
