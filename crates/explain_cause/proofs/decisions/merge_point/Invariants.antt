use Rattle.std.proofs.Common.{◌≡◌, ◌≤◌, length, drop}
use Rattle.explain_cause.specs.Tests.{merge_point, merge_point_from}
use Rattle.explain_cause.proofs.decisions.merge_point.Given as goal

abbrev pub invariant-loop-at : goal.invariant-loop-at
invariant-loop-at l = record {
  same : merge_point_from (drop l.at l.code) l.at l.reach ≡ merge_point l.code l.instruction;
  inside : l.reach ≤ length l.code;
}
