use Rattle.replay.proofs.TraceTexts.{steps_more}
use Rattle.replay.proofs.trace.put_step_lines.Goals as goal

pub loop-k-preserved : goal.loop-k-preserved
loop-k-preserved c =
    steps_more c.args.program.now c.args.lines.now c.loop-k.k c.args.text.now.items
    c.loop-k.text.items _ _ c.loop-k-test.true c.loop-k.invariant c.in_ok-put_step_line.ensures
