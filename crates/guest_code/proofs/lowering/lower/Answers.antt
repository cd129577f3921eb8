use Rattle.guest_syntax.specs.Tree.{tree_view}
use Rattle.guest_code.proofs.LoweredIsWellFormed.{lowered_is, lowered_well_formed}
use Rattle.guest_code.proofs.lowering.lower.Goals as goal

pub new-requires : goal.new-requires
new-requires c =
    let is = lowered_is (tree_view c.args.tree.now) _ _ _ _ _ _ _
    c.declarations-declarations.ensures c.threads.ensures c.in_ok-variables.ensures
    c.in_ok-mutexes.ensures c.in_ok-conditions.ensures c.in_ok-semaphores.ensures.same
    c.in_ok-threads.ensures in
    lowered_well_formed (tree_view c.args.tree.now) _ is c.in_ok-locals.ensures.gives
    c.in_ok-semaphores.ensures.counts
