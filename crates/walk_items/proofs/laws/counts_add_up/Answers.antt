use Rattle.walk_items.proofs.WalkedItems.{walked_counts, walked_count, walked_uncut}
use Rattle.walk_items.proofs.laws.counts_add_up.Goals as goal

pub returns-clause-counts : goal.returns-clause-counts
returns-clause-counts c = walked_counts

pub returns-clause-tried : goal.returns-clause-tried
returns-clause-tried c = walked_count

pub returns-clause-uncut : goal.returns-clause-uncut
returns-clause-uncut c = walked_uncut
