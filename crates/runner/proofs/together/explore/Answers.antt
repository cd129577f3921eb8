use Rattle.std.proofs.Common.{subst, refl, true, false}
use Rattle.std.{specs.Arc.arc_value, proofs.lemmas.Result.IfOk-weaker}
use Rattle.guest_code.specs.Program.{Program}
use Rattle.walk_items.specs.Items.{root_of}
use Rattle.runner_report.specs.Promises.{IsReport}
use Rattle.runner.proofs.AfterRounds.{course_at, report_ready, ends_weaker}
use Rattle.runner.proofs.together.explore.Goals as goal

pub search-requires-clause-at : goal.search-requires-clause-at
search-requires-clause-at g c = λ k l.
    course_at (root_of (arc_value c.args.program.now)) c.args.options false c.in_ok-course.course
    c.in_ok-course.ensures.course

pub report_at_end-requires-clause-at : goal.report_at_end-requires-clause-at
report_at_end-requires-clause-at g c =
    (report_ready (arc_value c.args.program.now) c.deref.result.now c.args.options
    (g.G.Gate.stops c.args.gate.now) c.in_ok-course.course
    (c.in_ok-course-2.course, c.in_ok-course-2.ending) c.deref.ensures c.in_ok-course.ensures.course
    c.in_ok-course-2.ensures.ended).0

pub report_at_end-requires-clause-ends : goal.report_at_end-requires-clause-ends
report_at_end-requires-clause-ends g c =
    ends_weaker (g.G.Gate.stops c.args.gate.now) true c.args.options c.in_ok-course-2.course.book
    c.in_ok-course-2.ending (λ e. refl)
    (report_ready (arc_value c.args.program.now) c.deref.result.now c.args.options
    (g.G.Gate.stops c.args.gate.now) c.in_ok-course.course
    (c.in_ok-course-2.course, c.in_ok-course-2.ending) c.deref.ensures c.in_ok-course.ensures.course
    c.in_ok-course-2.ensures.ended).1

pub returns-clause-report : goal.returns-clause-report
returns-clause-report g c =
    let may = g.G.Gate.stops c.args.gate.now in
    let ends = (report_ready (arc_value c.args.program.now) c.deref.result.now c.args.options may
    c.in_ok-course.course (c.in_ok-course-2.course, c.in_ok-course-2.ending) c.deref.ensures
    c.in_ok-course.ensures.course c.in_ok-course-2.ensures.ended).1 in
    IfOk-weaker c.report_at_end.result _ _ (λ r is.
    subst (λ (p : Program). IsReport may p c.args.options r) c.deref.ensures (is may ends))
    c.report_at_end.ensures.report
