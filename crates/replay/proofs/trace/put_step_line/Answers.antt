use Rattle.replay.proofs.TraceTexts.{step_parts}
use Rattle.replay.proofs.trace.put_step_line.Goals as goal

pub returns : goal.returns
returns c = step_parts c.args.program.now c.args.k c.args.line c.args.text.now.items _ _ _ _ _ _
    _ c.in_ok-put_number.ensures c.in_ok-put_three_texts.ensures c.thread_name.ensures
    c.in_ok-put_act.ensures c.in_ok-put_three_texts-2.ensures c.preempt_text.ensures
    c.stop_text.ensures
