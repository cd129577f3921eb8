use Rattle.std.proofs.Common.{arith}
use Rattle.semantics_machine.proofs.Objects.{rose}
use Rattle.semantics_machine.proofs.control.Control.release.Goals as goal

pub returns-clause-rises : goal.returns-clause-rises
returns-clause-rises c = λ p s t shows inside. rose p s t c.args.k c.args.self.now c.union-self.result shows
    inside
    (omega (arith, c.requires)) c.union-self.ensures
