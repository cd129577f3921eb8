use Rattle.walk_cover.proofs.Settled.{settled_sum}
use Rattle.walk_cover.proofs.laws.where_nothing_is_beyond_the_sum_stays.Goals as goal

pub returns : goal.returns
returns c = settled_sum
