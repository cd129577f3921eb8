use Rattle.walk_items.proofs.Splits.{pruned_none, pruned_within}
use Rattle.walk_items.proofs.laws.pruned_walks_put_off_nothing.Goals as goal

pub returns-clause-deferred : goal.returns-clause-deferred
returns-clause-deferred c = λ w once h e.
    pruned_none w.mode once w.item w.rest w.deferred e h.split.cut

pub returns-clause-beyond : goal.returns-clause-beyond
returns-clause-beyond c = λ w once h e.
    pruned_within w.mode once w.item w.part w.rest w.deferred e h.split
