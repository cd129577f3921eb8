use Rattle.std.proofs.Common.{arith, sym}
use Rattle.guest_syntax.proofs.BlocksOfPieces.{one_more, closes_here, closes_nowhere}
use Rattle.guest_syntax.proofs.pieces.closing_brace.Goals as goal

pub returns-in-None-clause-found : goal.returns-in-None-clause-found
returns-in-None-clause-found c = closes_here c.args.pieces.now c.loop-i.i _ c.loop-i.depth
    c.loop-i-test.true c.loop-i.invariant.opened (sym c.in-None.ensures.is)

pub loop-i-preserved : goal.loop-i-preserved
loop-i-preserved c = record {
  opened = one_more c.args.pieces.now c.loop-i.i _ c.loop-i.depth c.in-Some.deeper
      c.loop-i-test.true c.loop-i.invariant.opened (sym c.in-Some.ensures.is);
  few = omega (arith, c.in-Some.ensures.deeper, c.loop-i.invariant.few);
}

pub returns-clause-none : goal.returns-clause-none
returns-clause-none c = λ e n h. closes_nowhere c.args.pieces.now c.loop-i.i c.loop-i.depth
    c.loop-i-test.false c.loop-i.invariant.opened n h
