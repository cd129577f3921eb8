use Rattle.walk_items.proofs.WalkedItems.{walked_sum}
use Rattle.walk_items.proofs.laws.part_and_rest_join.Goals as goal

pub returns : goal.returns
returns c = walked_sum
