use Rattle.walk_summary.proofs.SumsJoin.{join_nothing}
use Rattle.walk_summary.proofs.laws.join_with_nothing.Goals as goal

pub returns : goal.returns
returns c = join_nothing
