use Rattle.std.proofs.Common.{ℕ, ◌<◌}
use Rattle.check_lint.specs.Warnings.{UsesIn}
use Rattle.check_lint.proofs.warning.is_used.Given as goal

abbrev pub invariant-loop-thread : goal.invariant-loop-thread
invariant-loop-thread l = (t : ℕ) → t < l.thread → ¬ UsesIn l.program t l.use_ l.number
