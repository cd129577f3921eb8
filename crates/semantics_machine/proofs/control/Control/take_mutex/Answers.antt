use Rattle.std.proofs.Common.{arith}
use Rattle.semantics_machine.proofs.Objects.{took}
use Rattle.semantics_machine.proofs.control.Control.take_mutex.Goals as goal

pub returns-clause-takes : goal.returns-clause-takes
returns-clause-takes c = λ p s d shows inside taking.
    took p s c.args.thread c.args.m d c.args.self.now c.with-near.result c.with-self.result
    c.difference-self.result shows inside (omega (arith, c.requires)) (omega (arith, c.requires))
    (omega (arith, c.requires))
    taking c.with-near.ensures.same c.with-near.ensures.others c.with-self.ensures.same
    c.with-self.ensures.others c.difference-self.ensures
