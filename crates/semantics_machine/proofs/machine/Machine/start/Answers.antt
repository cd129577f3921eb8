use Rattle.std.proofs.Common.{arith}
use Rattle.semantics_machine.proofs.Openings.{shows_start}
use Rattle.semantics_machine.proofs.machine.Machine.start.Goals as goal

pub returns : goal.returns
returns c = shows_start c.args.program.now c.loop-t.t c.loop-t.machine c.keeps_limits.ensures
    (omega arith) (omega arith) c.loop-t.invariant.opening
