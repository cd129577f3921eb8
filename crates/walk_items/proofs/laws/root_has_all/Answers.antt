use Rattle.walk_items.proofs.WalkedItems.{root_set, root_beyond, root_pruned, root_once_set}
use Rattle.walk_items.proofs.WalkedItems.{root_once_beyond, root_once_pruned}
use Rattle.walk_items.proofs.laws.root_has_all.Goals as goal

pub returns-clause-set : goal.returns-clause-set
returns-clause-set c = root_set

pub returns-clause-beyond : goal.returns-clause-beyond
returns-clause-beyond c = root_beyond

pub returns-clause-pruned : goal.returns-clause-pruned
returns-clause-pruned c = root_pruned

pub returns-clause-once_set : goal.returns-clause-once_set
returns-clause-once_set c = root_once_set

pub returns-clause-once_beyond : goal.returns-clause-once_beyond
returns-clause-once_beyond c = root_once_beyond

pub returns-clause-once_pruned : goal.returns-clause-once_pruned
returns-clause-once_pruned c = root_once_pruned
