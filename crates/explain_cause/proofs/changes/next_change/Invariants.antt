use Rattle.explain_cause.specs.Changes.{IsUnchanged}
use Rattle.explain_cause.proofs.changes.next_change.Given as goal

abbrev pub invariant-loop-place : goal.invariant-loop-place
invariant-loop-place l = IsUnchanged l.steps l.variable l.from l.place
