use Rattle.std.proofs.Common.{take}
use Rattle.runner_joining.specs.inner.Lines.{AreByPrefix}
use Rattle.runner_joining.proofs.by_prefix.PartsByPrefix.new.Given as goal

abbrev pub invariant-loop-part : goal.invariant-loop-part
invariant-loop-part l = AreByPrefix (take l.part-index l.parts) l.by_prefix
