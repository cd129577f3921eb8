use Rattle.walk_items.specs.Items.{root_of}
use Rattle.walk_cover.proofs.Covers.{cover_sum}
use Rattle.walk_cover.proofs.laws.sums_over_a_cover_join.Goals as goal

pub returns-clause-program : goal.returns-clause-program
returns-clause-program c = λ mode p items h. cover_sum mode (root_of p) items h

pub returns-clause-item : goal.returns-clause-item
returns-clause-item c = cover_sum
