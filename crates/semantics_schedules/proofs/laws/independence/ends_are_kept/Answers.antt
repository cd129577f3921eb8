use Rattle.semantics_schedules.proofs.StatedLaws.{views}
use Rattle.semantics_schedules.proofs.laws.independence.ends_are_kept.Goals as goal

pub returns : goal.returns
returns c = views
