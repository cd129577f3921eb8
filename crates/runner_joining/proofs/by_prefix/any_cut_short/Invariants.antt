use Rattle.runner_joining.proofs.by_prefix.any_cut_short.Given as goal

abbrev pub invariant-loop-part : goal.invariant-loop-part
invariant-loop-part l = Unit {0}
