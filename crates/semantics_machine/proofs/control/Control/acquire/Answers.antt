use Rattle.std.proofs.Common.{arith}
use Rattle.semantics_machine.proofs.Objects.{acquired, left_empty, left_some}
use Rattle.semantics_machine.proofs.control.Control.acquire.Goals as goal

pub returns-then-count-eq0-clause-acquires : goal.returns-then-count-eq0-clause-acquires
returns-then-count-eq0-clause-acquires c = λ p s shows asleep inside.
    acquired p s c.args.thread c.args.k c.args.self.now c.with-near.result c.difference-self.result shows
    asleep inside (omega (arith, c.requires)) (omega (arith, c.requires))
    c.with-near.ensures.same c.with-near.ensures.others
    (left_empty p s c.args.thread c.args.k c.args.self.now c.with-near.result c.difference-self.result
    shows inside c.if-count-eq0.true c.with-near.ensures.others c.difference-self.ensures)

pub returns-else-count-eq0-clause-acquires : goal.returns-else-count-eq0-clause-acquires
returns-else-count-eq0-clause-acquires c = λ p s shows asleep inside.
    acquired p s c.args.thread c.args.k c.args.self.now c.with-near.result
    c.args.self.now.enabled shows asleep inside (omega (arith, c.requires))
    (omega (arith, c.requires))
    c.with-near.ensures.same c.with-near.ensures.others
    (left_some p s c.args.thread c.args.k c.args.self.now shows inside c.if-count-eq0.false)
