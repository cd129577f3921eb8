use Rattle.book.proofs.BoundedSums.{thinned_bounded}
use Rattle.book.proofs.laws.dropping_leaves_a_lower_bound.Goals as goal

pub returns : goal.returns
returns c = λ b t. thinned_bounded b t
