use Rattle.std.proofs.Common.{◌≡◌, ◌+◌, ◌*◌, ◌++◌, drop}
use Rattle.guest_syntax.specs.Tree.{block_view}
use Rattle.guest_code.specs.SourceMap.{block_places, copies}
use Rattle.guest_code.proofs.source_map.+places.Given as goal

abbrev pub decreases-push_block_places : goal.decreases-push_block_places
decreases-push_block_places l = 3 * goal.size-push_block_places l + 1

abbrev pub decreases-push_statement_places : goal.decreases-push_statement_places
decreases-push_statement_places l = 3 * goal.size-push_statement_places l

abbrev pub decreases-push_repeat_places : goal.decreases-push_repeat_places
decreases-push_repeat_places l = 3 * goal.size-push_repeat_places l + 2

abbrev pub invariant-push_repeat_places-loop-left : goal.invariant-push_repeat_places-loop-left
invariant-push_repeat_places-loop-left l =
    l.places.items ++ copies (block_places (block_view l.body)) l.left
    ≡ l.fn.places.items ++ copies (block_places (block_view l.body)) l.times

abbrev pub invariant-push_block_places-loop-placed : goal.invariant-push_block_places-loop-placed
invariant-push_block_places-loop-placed l =
    l.places.items ++ block_places (block_view (drop l.placed-index l.block))
    ≡ l.fn.places.items ++ block_places (block_view l.block)

abbrev pub decreases-push_repeat_places-loop-left : goal.decreases-push_repeat_places-loop-left
decreases-push_repeat_places-loop-left l = l.left
