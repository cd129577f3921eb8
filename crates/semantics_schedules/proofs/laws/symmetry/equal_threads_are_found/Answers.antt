use Rattle.semantics_schedules.proofs.HiddenThreads.{equal_decides, hidden_is}
use Rattle.semantics_schedules.proofs.laws.symmetry.equal_threads_are_found.Goals as goal

pub returns : goal.returns
returns c = record { equal = equal_decides; hidden = hidden_is }
