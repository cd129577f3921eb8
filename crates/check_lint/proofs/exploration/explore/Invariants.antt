use Rattle.check_lint.specs.inner.Frames.{IsExploration}
use Rattle.check_lint.proofs.exploration.explore.Given as goal

abbrev pub invariant-ends : goal.invariant-ends
invariant-ends l = IsExploration l.program l.dfs
