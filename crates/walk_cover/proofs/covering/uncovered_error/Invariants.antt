use Rattle.walk_cover.proofs.covering.uncovered_error.Given as goal

abbrev pub invariant-loop-steps : goal.invariant-loop-steps
invariant-loop-steps l = Unit {0}
