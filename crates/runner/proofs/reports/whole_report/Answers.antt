use Rattle.std.proofs.Common.{sym, subst}
use Rattle.std.proofs.lemmas.Result.{IfOk-weaker}
use Rattle.runner_report.specs.Promises.{IsReport}
use Rattle.runner.proofs.Judgments.{whole_is_reported}
use Rattle.runner.proofs.reports.whole_report.Goals as goal

pub returns-clause-report : goal.returns-clause-report
returns-clause-report c =
    let p = c.args.program.now in
    let o = c.args.options in
    IfOk-weaker c.report_in.result _ _ (λ r is may passed found.
    subst (IsReport may p o) (sym is)
    (whole_is_reported may p o c.args.mode c.args.summary.now c.in_ok-verdict.verdict
    c.requires.mode passed c.requires.ends found c.in_ok-verdict.ensures.verdict))
    c.report_in.ensures.report
