use Rattle.replay.proofs.TraceTexts.{starts_more}
use Rattle.replay.proofs.trace.put_start_lines.Goals as goal

pub loop-t-preserved : goal.loop-t-preserved
loop-t-preserved c =
    starts_more c.args.program.now c.args.stopped.now c.loop-t.t-index c.args.text.now.items
    c.loop-t.text.items _ _ c.loop-t-test.true c.loop-t.invariant c.in_ok-put_three_texts.ensures
    c.thread_name.ensures
