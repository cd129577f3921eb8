use Rattle.walk_items.proofs.WalkedItems.{walked_order}
use Rattle.walk_items.proofs.laws.tried_come_first.Goals as goal

pub returns : goal.returns
returns c = walked_order
