use Rattle.std.proofs.Common.{◌≡◌, ◌≤◌, take}
use Rattle.std.specs.List.{count_by}
use Rattle.explain_cause.proofs.failure.count_preemptions.Given as goal

abbrev pub invariant-loop-step : goal.invariant-loop-step
invariant-loop-step l = record {
  counted : l.preemptions ≡ count_by (λ s. s.line.preempting) (take l.step-index l.steps);
  few : l.preemptions ≤ l.step-index;
}
