use Rattle.std.proofs.Common.{false, take, sym}
use Rattle.std.proofs.lemmas.List.{take_more}
use Rattle.guest_syntax.proofs.PiecesOfText.{blank_append}
use Rattle.guest_syntax.proofs.pieces.gap_len.Goals as goal

pub loop-i-preserved : goal.loop-i-preserved
loop-i-preserved c = rw (
  take_more c.args.text.now c.loop-i.i 0 c.loop-i-test.true,
  blank_append false (take c.loop-i.i c.args.text.now),
  c.loop-i.invariant,
) (sym c.in-Some.ensures)
