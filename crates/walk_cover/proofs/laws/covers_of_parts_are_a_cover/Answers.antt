use Rattle.walk_cover.proofs.Covers.{parts_cover}
use Rattle.walk_cover.proofs.laws.covers_of_parts_are_a_cover.Goals as goal

pub returns : goal.returns
returns c = λ mode item items parts h each. parts_cover mode item parts items h each
