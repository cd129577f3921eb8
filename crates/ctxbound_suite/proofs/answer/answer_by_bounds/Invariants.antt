use Rattle.std.proofs.Common.{◌≡◌}
use Rattle.std.specs.Arc.{arc_value}
use Rattle.runner_report.specs.Reports.{NoBadBelow}
use Rattle.ctxbound_suite.proofs.answer.answer_by_bounds.Given as goal

abbrev pub invariant-loop-bound : goal.invariant-loop-bound
invariant-loop-bound g l = record {
  none : NoBadBelow (arc_value l.program) l.bound;
  known : l.known ≡ l.fn.known;
}
