use Rattle.walk_summary.proofs.SumsJoin.{join_comm}
use Rattle.walk_summary.proofs.laws.join_commutes.Goals as goal

pub returns : goal.returns
returns c = join_comm
