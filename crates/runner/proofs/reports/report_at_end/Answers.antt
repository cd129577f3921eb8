use Rattle.std.proofs.Common.{sym, subst, Bool}
use Rattle.std.proofs.lemmas.Result.{IfOk-weaker}
use Rattle.walk_items.specs.Items.{root_of}
use Rattle.runner_report.specs.Promises.{IsReport}
use Rattle.runner.specs.{Levels.HasPassed, declared.judge.Ending.Ending}
use Rattle.runner.specs.inner.Judging.{IsFound, Ends}
use Rattle.runner.proofs.Judgments.{found_of_program, cut_at_end}
use Rattle.runner.proofs.reports.report_at_end.Goals as goal

pub whole_report-requires-clause-bad : goal.whole_report-requires-clause-bad
whole_report-requires-clause-bad c =
    found_of_program c.args.book.now.quick c.args.program.now c.mode-mode.result
    c.in-Some.summary.now c.in-Some.ensures.found

pub returns-in-Some-clause-report : goal.returns-in-Some-clause-report
returns-in-Some-clause-report c =
    let p = c.args.program.now in
    let at = c.requires.at in
    IfOk-weaker c.whole_report.result _ _ (λ r is may ends.
    is may (subst (HasPassed (root_of p)) (sym c.mode-mode.ensures) at.passed)
    (subst (λ (q : Bool). IsFound q p c.mode-mode.result c.in-Some.summary.now) at.is.quick
    c.in-Some.ensures.found)) c.whole_report.ensures.report

pub returns-in-Cut-clause-report : goal.returns-in-Cut-clause-report
returns-in-Cut-clause-report c =
    let p = c.args.program.now in
    let o = c.args.options in
    let b = c.args.book.now in
    IfOk-weaker c.report_in.result _ _ (λ r is may ends.
    subst (IsReport may p o) (sym is)
    (cut_at_end may p o b c.mode-mode.result c.finished.result.now c.in-Cut.cause
    c.last_finished_bound-finished.result c.mode-mode.ensures c.finished.ensures.finished
    c.requires.at c.finished.ensures.kept
    (subst (λ (e : Ending). Ends may o b e) c.in-Cut.is ends)
    c.last_finished_bound-finished.ensures)) c.report_in.ensures.report
