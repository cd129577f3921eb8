use Rattle.walk_summary.proofs.SumsJoin.{sum_of-append}
use Rattle.walk_summary.proofs.laws.sums_join.Goals as goal

pub returns : goal.returns
returns c = sum_of-append
