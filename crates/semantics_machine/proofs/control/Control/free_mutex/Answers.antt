use Rattle.std.proofs.Common.{arith}
use Rattle.semantics_machine.proofs.Objects.{gave}
use Rattle.semantics_machine.proofs.control.Control.free_mutex.Goals as goal

pub returns-clause-frees : goal.returns-clause-frees
returns-clause-frees c = λ p s t shows inside. gave p s t c.args.m c.args.self.now c.union-self.result shows
    inside
    (omega (arith, c.requires)) c.union-self.ensures
