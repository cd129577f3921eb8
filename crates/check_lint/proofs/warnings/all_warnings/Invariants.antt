use Rattle.std.proofs.Common.{take}
use Rattle.check_lint.specs.Warnings.{Listed}
use Rattle.check_lint.proofs.warnings.all_warnings.Given as goal

abbrev pub invariant-loop-kind : goal.invariant-loop-kind
invariant-loop-kind l = Listed l.program (take l.kind-index l.kind-items) l.all.items
