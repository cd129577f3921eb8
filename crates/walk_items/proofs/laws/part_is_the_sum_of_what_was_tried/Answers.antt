use Rattle.walk_items.proofs.WalkedItems.{walked_part}
use Rattle.walk_items.proofs.laws.part_is_the_sum_of_what_was_tried.Goals as goal

pub returns : goal.returns
returns c = walked_part
