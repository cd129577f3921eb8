use Rattle.std.proofs.Common.{sym, arith}
use Rattle.guest_syntax.proofs.ByteLoops.{after_step, after_end}
use Rattle.guest_syntax.proofs.place.Pos.after.Goals as goal

pub loop-byte-preserved : goal.loop-byte-preserved
loop-byte-preserved c = record {
  same = rw (
    c.past-at.ensures.place,
    ← after_step c.args.bytes.now c.loop-byte.byte-index
        c.loop-byte.at c.loop-byte-test.true,
  ) c.loop-byte.invariant.same;
  line = omega arith;
  col = omega arith;
}

pub returns-clause-place : goal.returns-clause-place
returns-clause-place c = rw (← c.loop-byte.invariant.same)
    (sym (after_end c.args.bytes.now c.loop-byte.byte-index c.loop-byte.at c.loop-byte-test.false))
