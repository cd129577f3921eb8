use Rattle.semantics.proofs.StepFrame.{others_left}
use Rattle.semantics.proofs.laws.steps.steps_leave_other_threads.Goals as goal

pub returns : goal.returns
returns c = others_left
