use Rattle.std.proofs.Common.{◌≡◌, ◌+◌, ◌*◌, ◌≤◌, ◌<◌, ◌++◌, ◌^◌, max, drop}
use denote.Param.Weighed.{most}
use Rattle.guest_syntax.{specs.Tree.block_view, proofs.tree.Placed.TheLaws.the_size}
use Rattle.guest_code.specs.{Code.{block_code, unrolled}, declared.limits.TheConstants.INSTRUCTIONS}
use Rattle.guest_code.specs.inner.Emission.{names_of, size_of, block_code_in}
use Rattle.guest_code.proofs.emit.+emit.Given as goal

abbrev pub decreases-emit_block : goal.decreases-emit_block
decreases-emit_block l = 3 * goal.size-emit_block l + 1

abbrev pub decreases-emit_statement : goal.decreases-emit_statement
decreases-emit_statement l = 3 * goal.size-emit_statement l

abbrev pub decreases-emit_if : goal.decreases-emit_if
decreases-emit_if l = 3 * goal.size-emit_if l + 2

abbrev pub decreases-emit_if_else : goal.decreases-emit_if_else
decreases-emit_if_else l = 3 * max (most the_size l.then.now) (most the_size l.other.now) + 2

abbrev pub decreases-emit_copies : goal.decreases-emit_copies
decreases-emit_copies l = 3 * goal.size-emit_copies l + 2

abbrev pub decreases-emit_copies-loop-left : goal.decreases-emit_copies-loop-left
decreases-emit_copies-loop-left l = l.left

abbrev pub invariant-emit_copies-loop-left : goal.invariant-emit_copies-loop-left
invariant-emit_copies-loop-left l = record {
  same : l.code.items ++ unrolled (block_code (names_of l.names) (block_view l.body)) l.len l.left
      ≡ l.fn.code.items ++ unrolled (block_code (names_of l.names) (block_view l.body)) l.len
      l.times;
  less : l.left ≤ l.times;
}

abbrev pub invariant-emit_block-loop-placed : goal.invariant-emit_block-loop-placed
invariant-emit_block-loop-placed l = record {
  same : l.code.items ++ block_code_in l.context (block_view (drop l.placed-index l.block))
      ≡ l.fn.code.items ++ block_code_in l.context (block_view l.block);
  left : l.left ≡ size_of (drop l.placed-index l.block);
  small : l.left ≤ INSTRUCTIONS;
  near : l.context.distance_to_exit + l.left < 2 ^ 32;
}
