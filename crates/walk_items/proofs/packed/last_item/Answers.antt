use Rattle.walk_items.proofs.LastItems.{last_item_runs, last_item_made}
use Rattle.walk_items.proofs.packed.last_item.Goals as goal

pub at_known-requires : goal.at_known-requires
at_known-requires c = last_item_runs _ c.in_ok-try_clone.ensures c.in-Some.ensures c.requires.run

pub returns : goal.returns
returns c = last_item_made c.args.prefixes.now _ c.in_ok-try_clone.ensures c.in-Some.ensures
    c.at_known.ensures
