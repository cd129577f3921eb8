use Rattle.walk_cover.proofs.Covers.{past_sum}
use Rattle.walk_cover.proofs.laws.past_the_bound_nothing_is_summed.Goals as goal

pub returns : goal.returns
returns c = past_sum
