use Rattle.walk_summary.proofs.SumsJoin.{sum_kept}
use Rattle.walk_summary.proofs.laws.sums_are_summaries.Goals as goal

pub returns : goal.returns
returns c = sum_kept
