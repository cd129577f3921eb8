use Rattle.check_lint.specs.Warnings.{Chosen}
use Rattle.check_lint.proofs.warnings.warnings_of.Given as goal

abbrev pub invariant-loop-number : goal.invariant-loop-number
invariant-loop-number l = Chosen l.program l.kind l.number l.all.items
