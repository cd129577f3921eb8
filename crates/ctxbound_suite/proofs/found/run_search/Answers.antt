use Rattle.std.proofs.Common.{sym, subst}
use Rattle.guest_code.specs.Program.{Program}
use Rattle.runner_report.specs.Reports.{IsBadSchedule}
use Rattle.ctxbound_suite.{specs.Shown.options_of, proofs.Shows.named_is_bad}
use Rattle.ctxbound_suite.proofs.found.run_search.Goals as goal

pub named_bad_schedule-requires : goal.named_bad_schedule-requires
named_bad_schedule-requires g c w e =
    subst (λ (p : Program). IsBadSchedule p w) (sym c.deref-2.ensures)
    (named_is_bad _ (record (options_of c.args.search c.args.limits.limit)
    { symmetry = c.has_equal_threads.result }) c.in_ok-report.report
    c.in_ok-report.ensures.report w e)
