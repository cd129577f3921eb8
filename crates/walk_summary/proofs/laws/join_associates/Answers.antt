use Rattle.walk_summary.proofs.SumsJoin.{join_assoc}
use Rattle.walk_summary.proofs.laws.join_associates.Goals as goal

pub returns : goal.returns
returns c = join_assoc
