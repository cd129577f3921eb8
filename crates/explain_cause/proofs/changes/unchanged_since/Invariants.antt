use Rattle.std.proofs.Common.{◌≤◌, length}
use Rattle.explain_cause.specs.Changes.{IsUnchanged}
use Rattle.explain_cause.proofs.changes.unchanged_since.Given as goal

abbrev pub invariant-places : goal.invariant-places
invariant-places l = record {
  inside : l.place ≤ length l.steps;
  before : l.place ≤ l.at;
  none : IsUnchanged l.steps l.variable l.place l.at;
}

abbrev pub decreases-places : goal.decreases-places
decreases-places l = l.place
