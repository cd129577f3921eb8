use Rattle.walk_items.proofs.WalkedItems.{walked_tried}
use Rattle.walk_items.proofs.laws.tried_are_under_none.Goals as goal

pub returns : goal.returns
returns c = walked_tried
