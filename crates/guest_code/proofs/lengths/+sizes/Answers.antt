use Rattle.std.proofs.Common.{arith}
use Rattle.guest_code.proofs.CodeLengths.{block_size_at, block_size_end}
use Rattle.guest_code.proofs.lengths.+sizes.Goals as goal

pub size_of_block-loop-placed-preserved : goal.size_of_block-loop-placed-preserved
size_of_block-loop-placed-preserved t c =
    let e = block_size_at c.args.block.now c.loop-placed.placed-index
    c.placed-item.result c.loop-placed-test.true c.placed-item.is in
    record {
      same = omega (
        arith,
        e,
        c.loop-placed.invariant.same,
        c.min-total.ensures,
        c.size_of_statement.ensures,
      );
      cut = omega (arith, c.min-total.ensures);
    }

pub size_of_block-returns : goal.size_of_block-returns
size_of_block-returns t c =
    omega (
      arith,
      block_size_end c.args.block.now c.loop-placed.placed-index
          c.loop-placed-test.false,
      c.loop-placed.invariant.same,
      c.loop-placed.invariant.cut,
    )
