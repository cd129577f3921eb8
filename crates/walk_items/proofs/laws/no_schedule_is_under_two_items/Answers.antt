use Rattle.walk_items.proofs.WalkedItems.{walked_apart}
use Rattle.walk_items.proofs.laws.no_schedule_is_under_two_items.Goals as goal

pub returns : goal.returns
returns c = walked_apart
