use Rattle.semantics_schedules.proofs.StatedLaws.{complete}
use Rattle.semantics_schedules.proofs.laws.schedules.lists_exactly_the_complete.Goals as goal

pub returns : goal.returns
returns c = complete
