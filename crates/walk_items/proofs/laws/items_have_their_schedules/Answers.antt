use Rattle.walk_items.proofs.Unhidden.{unhidden_beyond}
use Rattle.walk_items.proofs.WalkedItems.{item_members, item_rises, item_beyond, item_kept}
use Rattle.walk_items.proofs.WalkedItems.{item_once_members, item_once_kept}
use Rattle.walk_items.proofs.laws.items_have_their_schedules.Goals as goal

pub returns-clause-members : goal.returns-clause-members
returns-clause-members c = item_members

pub returns-clause-order : goal.returns-clause-order
returns-clause-order c = item_rises

pub returns-clause-beyond : goal.returns-clause-beyond
returns-clause-beyond c = item_beyond

pub returns-clause-pruned : goal.returns-clause-pruned
returns-clause-pruned c = item_kept

pub returns-clause-once_members : goal.returns-clause-once_members
returns-clause-once_members c = λ i bound w. item_once_members i w bound

pub returns-clause-once_pruned : goal.returns-clause-once_pruned
returns-clause-once_pruned c = item_once_kept

pub returns-clause-once_beyond : goal.returns-clause-once_beyond
returns-clause-once_beyond c = unhidden_beyond
