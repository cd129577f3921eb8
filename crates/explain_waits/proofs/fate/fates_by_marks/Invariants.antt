use Rattle.explain_waits.specs.inner.Taking.{ArePassed}
use Rattle.explain_waits.proofs.fate.fates_by_marks.Given as goal

abbrev pub invariant-loop-at : goal.invariant-loop-at
invariant-loop-at l = ArePassed l.settled l.marks l.at l.reach l.fates.items
