use Rattle.explain_cause.specs.Causes.{AreStepMarks}
use Rattle.explain_cause.proofs.causes.step_marks_of.Given as goal

abbrev pub invariant-loop-at : goal.invariant-loop-at
invariant-loop-at l = AreStepMarks l.events l.marks l.at l.count l.steps.items
