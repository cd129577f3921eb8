use Rattle.std.proofs.Common.{◌≡◌, ◌≤◌, length, take, drop}
use Rattle.explain_cause.specs.{Causes.marks_in, inner.Wanting.IsWanted}
use Rattle.explain_cause.proofs.Places.{rest_marked}
use Rattle.explain_cause.proofs.causes.marks_of.Given as goal

abbrev pub invariant-events : goal.invariant-events
invariant-events l = record {
  inside : l.at ≤ length l.events;
  backward_slice : IsWanted (take l.at l.events) (rest_marked l.program l.events l.at)
      l.backward_slice;
  marks : drop l.at l.marks.items ≡ marks_in (rest_marked l.program l.events l.at);
  all : length l.marks.items ≡ length l.events;
}

abbrev pub decreases-events : goal.decreases-events
decreases-events l = l.at
