use Rattle.semantics.proofs.WorkFalls.{work-step}
use Rattle.semantics.proofs.laws.steps.work_falls.Goals as goal

pub returns : goal.returns
returns c = work-step
