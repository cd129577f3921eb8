use Rattle.replay.proofs.FirstBadPlace.{first_bad_fails, first_bad_once}
use Rattle.replay.proofs.laws.one_place_is_the_first_bad.Goals as goal

pub returns-clause-fails : goal.returns-clause-fails
returns-clause-fails c = first_bad_fails

pub returns-clause-one : goal.returns-clause-one
returns-clause-one c = first_bad_once
