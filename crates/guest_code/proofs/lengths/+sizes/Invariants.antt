use Rattle.std.proofs.Common.{◌≡◌, ◌+◌, ◌≤◌, min, drop}
use Rattle.guest_syntax.specs.Tree.{block_view}
use Rattle.guest_code.specs.{Sizes.block_size, declared.limits.TheConstants.INSTRUCTIONS}
use Rattle.guest_code.proofs.lengths.+sizes.Given as goal

abbrev pub invariant-size_of_block-loop-placed : goal.invariant-size_of_block-loop-placed
invariant-size_of_block-loop-placed l = record {
  same : min (l.total + block_size (block_view (drop l.placed-index l.block)))
      (INSTRUCTIONS + 1) ≡ min (block_size (block_view l.fn.block)) (INSTRUCTIONS + 1);
  cut : l.total ≤ INSTRUCTIONS + 1;
}
