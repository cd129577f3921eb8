use Rattle.std.proofs.Common.{subst, true, false}
use Rattle.std.{specs.Arc.arc_value, proofs.lemmas.Result.IfOk-weaker}
use Rattle.guest_code.specs.Program.{Program}
use Rattle.walk_items.specs.Items.{root_of}
use Rattle.runner_report.specs.Promises.{IsReport}
use Rattle.runner.specs.inner.Judging.{IsAt, Ends}
use Rattle.runner.proofs.AfterRounds.{course_at, report_ready, ends_weaker}
use Rattle.runner.proofs.alone.explore_alone.Goals.{After-deref}
use Rattle.runner.proofs.alone.explore_alone.Goals as goal

pub search_alone-requires-clause-at : goal.search_alone-requires-clause-at
search_alone-requires-clause-at c = λ k.
    course_at (root_of (arc_value c.args.program.now)) c.args.options false c.in_ok-course.course
    c.in_ok-course.ensures.course

-- what is known where the search has ended
ready : (c : After-deref) →
    IsAt (root_of c.deref.result.now) c.args.options c.in_ok-course-2.course.book
    × Ends false c.args.options c.in_ok-course-2.course.book c.in_ok-course-2.ending
ready c = report_ready (arc_value c.args.program.now) c.deref.result.now c.args.options false
    c.in_ok-course.course (c.in_ok-course-2.course, c.in_ok-course-2.ending) c.deref.ensures
    c.in_ok-course.ensures.course c.in_ok-course-2.ensures.ended

pub report_at_end-requires-clause-at : goal.report_at_end-requires-clause-at
report_at_end-requires-clause-at c =
    (ready (goal.at.report_at_end-requires-clause-at c).After-deref).0

pub report_at_end-requires-clause-ends : goal.report_at_end-requires-clause-ends
report_at_end-requires-clause-ends c =
    ends_weaker false true c.args.options c.in_ok-course-2.course.book c.in_ok-course-2.ending
    (λ e. absurd cc) (ready (goal.at.report_at_end-requires-clause-ends c).After-deref).1

pub returns-clause-report : goal.returns-clause-report
returns-clause-report c =
    let ends = (ready (goal.at.returns-clause-report c).After-deref).1 in
    IfOk-weaker c.report_at_end.result _ _ (λ r is.
    subst (λ (p : Program). IsReport false p c.args.options r) c.deref.ensures (is false ends))
    c.report_at_end.ensures.report
