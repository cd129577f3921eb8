use Rattle.walk_items.proofs.WalkedItems.{walked_has}
use Rattle.walk_items.proofs.laws.rest_has_its_schedules.Goals as goal

pub returns : goal.returns
returns c = walked_has
