use Rattle.std.proofs.Common.{take}
use Rattle.runner_joining.specs.Parts.{AreTold}
use Rattle.runner_joining.proofs.joined.Joining.sum_at.Given as goal

abbrev pub invariant-loop-item : goal.invariant-loop-item
invariant-loop-item l = AreTold l.fn.self.parts.now.parts.now l.bound
    (take l.item-index l.fn.self.items.now) l.sum
