use Rattle.std.proofs.Common.{◌≡◌, ◌++◌}
use Rattle.check_lint.specs.Warnings.{kinds_of_objects, kinds_of_threads}
use Rattle.check_lint.proofs.warnings.kinds.Given as goal

abbrev pub invariant-loop-thread : goal.invariant-loop-thread
invariant-loop-thread l = l.all.items ≡ kinds_of_objects ++ kinds_of_threads l.thread
