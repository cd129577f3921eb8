use Rattle.std.proofs.Common.{◌≡◌, ◌+◌, ◌*◌, max, drop}
use denote.Param.Weighed.{most}
use Rattle.guest_syntax.{specs.Tree.block_view, proofs.tree.Placed.TheLaws.the_size}
use Rattle.guest_code.specs.{Program.locals_view, Uses.block_uses, inner.Walk.{all_uses, walk}}
use Rattle.guest_code.proofs.check.+body.Given as goal

abbrev pub decreases-check_block : goal.decreases-check_block
decreases-check_block l = 3 * goal.size-check_block l + 1

abbrev pub decreases-check_statement : goal.decreases-check_statement
decreases-check_statement l = 3 * goal.size-check_statement l

abbrev pub decreases-check_if : goal.decreases-check_if
decreases-check_if l = 3 * goal.size-check_if l + 2

abbrev pub decreases-check_if_else : goal.decreases-check_if_else
decreases-check_if_else l = 3 * max (most the_size l.then.now) (most the_size l.other.now) + 2

abbrev pub decreases-check_repeat : goal.decreases-check_repeat
decreases-check_repeat l = 3 * goal.size-check_repeat l + 2

abbrev pub invariant-check_block-loop-placed : goal.invariant-check_block-loop-placed
invariant-check_block-loop-placed l =
    walk (all_uses l.scope.tree.now) (locals_view l.locals)
    (block_uses l.scope.in_repeat (block_view (drop l.placed-index l.block)))
    ≡ walk (all_uses l.scope.tree.now) (locals_view l.fn.locals)
    (block_uses l.scope.in_repeat (block_view l.block))
