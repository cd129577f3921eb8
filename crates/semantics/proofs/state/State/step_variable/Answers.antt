use Rattle.std.proofs.Common.{arith, false}
use Rattle.std.proofs.lemmas.Grind.{common_steps}
use Rattle.semantics.proofs.state.State.step_variable.Goals as goal

pub returns : goal.returns
returns c = grind (
  arith,
  common_steps,
  c.access.ensures.locals (record {
    pc = c.index_mut-runner.result.now.pc;
    status = c.index_mut-runner.result.now.status;
    free = false;
  }),
)
