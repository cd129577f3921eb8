use Rattle.walk_items.proofs.WalkedItems.{past_none, past_beyond}
use Rattle.walk_items.proofs.laws.prefix_past_the_bound.Goals as goal

pub returns-clause-none : goal.returns-clause-none
returns-clause-none c = past_none

pub returns-clause-beyond : goal.returns-clause-beyond
returns-clause-beyond c = past_beyond
