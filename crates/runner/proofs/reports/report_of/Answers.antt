use Rattle.std.proofs.Common.{false}
use Rattle.runner.proofs.Judgments.{found_of_whole}
use Rattle.runner.proofs.reports.report_of.Goals as goal

pub returns-clause-report : goal.returns-clause-report
returns-clause-report c passed is =
    c.in_ok-report.ensures.report false passed
    (found_of_whole c.args.options.quick c.args.program.now c.args.mode c.args.summary.now is)
