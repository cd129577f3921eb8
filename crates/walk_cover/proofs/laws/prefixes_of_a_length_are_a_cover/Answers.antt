use Rattle.walk_cover.proofs.{Covers.prefixes_cover, Lengths.prefixes_rise}
use Rattle.walk_cover.proofs.laws.prefixes_of_a_length_are_a_cover.Goals as goal

pub returns-clause-cover : goal.returns-clause-cover
returns-clause-cover c = prefixes_cover

pub returns-clause-rising : goal.returns-clause-rising
returns-clause-rising c = prefixes_rise
