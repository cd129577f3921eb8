use Rattle.walk_summary.proofs.SumsJoin.{sum_of_none}
use Rattle.walk_summary.proofs.laws.sum_of_none.Goals as goal

pub returns : goal.returns
returns c = sum_of_none
