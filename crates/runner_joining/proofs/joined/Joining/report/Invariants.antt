use Rattle.std.proofs.Common.{ℕ, ◌<◌, Some}
use Rattle.runner_joining.specs.Parts.{GoesOnAt}
use Rattle.runner_joining.proofs.joined.Joining.report.Given as goal

abbrev pub invariant-loop-bound : goal.invariant-loop-bound
invariant-loop-bound l = (a : ℕ) → a < l.bound →
    GoesOnAt l.fn.self.program.now l.fn.self.search l.fn.self.parts.now.parts.now (Some a)
