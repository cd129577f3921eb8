use Rattle.std.proofs.Common.{ℕ, ◌<◌}
use Rattle.check_lint.specs.Warnings.{IsUnseen}
use Rattle.check_lint.proofs.warning.waits_without_recheck.Given as goal

abbrev pub invariant-loop-local : goal.invariant-loop-local
invariant-loop-local l = (r : ℕ) → r < l.local → IsUnseen l.code r l.at
