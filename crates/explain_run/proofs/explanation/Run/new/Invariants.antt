use Rattle.explain_run.proofs.CarriedOut.{IsCarriedUpTo}
use Rattle.explain_run.proofs.explanation.Run.new.Given as goal

abbrev pub invariant-loop-at : goal.invariant-loop-at
invariant-loop-at l =
    IsCarriedUpTo l.program l.schedule l.at l.execution l.steps.items l.holders.items
