use Rattle.walk_cover.proofs.Lengths.{same_prefixes, same_cover}
use Rattle.walk_cover.proofs.laws.covers_are_the_same_at_each_bound.Goals as goal

pub returns-clause-prefixes : goal.returns-clause-prefixes
returns-clause-prefixes c = λ p a b n. same_prefixes a b p n

pub returns-clause-cover : goal.returns-clause-cover
returns-clause-cover c = same_cover
