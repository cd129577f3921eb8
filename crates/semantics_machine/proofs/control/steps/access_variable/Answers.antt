use Rattle.std.proofs.Common.{arith, refl, ap, set}
use Rattle.semantics_machine.proofs.Performed.{accessed}
use Rattle.semantics_machine.proofs.control.steps.access_variable.Goals as goal

pub returns : goal.returns
returns c = λ p s t i d poised inside is. accessed p s t i d c.args.shared.now c.args.own.now
    c.args.variable c.args.action _
    (set c.args.shared.now c.args.variable c.access.new.cell) c.access.new.locals poised is inside
    c.requires.below refl (ap (set c.args.shared.now c.args.variable) c.access.ensures.cell)
    c.access.ensures.locals (omega arith)
