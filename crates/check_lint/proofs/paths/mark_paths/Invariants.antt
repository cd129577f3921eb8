use Rattle.check_lint.proofs.PathMarks.{Passed}
use Rattle.check_lint.proofs.paths.mark_paths.Given as goal

abbrev pub invariant-loop-at : goal.invariant-loop-at
invariant-loop-at l = Passed l.marks l.code l.watch l.start l.holds l.at
