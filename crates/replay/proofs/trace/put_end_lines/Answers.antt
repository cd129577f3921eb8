use Rattle.std.proofs.Common.{◌∙◌, ap, decimal, codes, ◌++◌}
use Rattle.replay.{specs.Trace.{kind_text, values_text}, proofs.TraceTexts.end_parts}
use Rattle.replay.proofs.trace.put_end_lines.Goals as goal

pub returns : goal.returns
returns c = end_parts c.args.program.now c.args.run.now c.args.text.now.items _ _ _ _ _
    (c.in_ok-put_number.ensures
    ∙ ap (λ n. c.args.text.now.items ++ (codes "preemptions " ++ decimal n))
    c.preemptions.ensures) c.in_ok-put_three_texts.ensures
    (c.kind_text.ensures ∙ ap kind_text c.kind.ensures)
    (c.in_ok-put_values.ensures
    ∙ ap (λ vs. c.put_three_texts.new.text.items ++ values_text c.args.program.now 0 vs)
    c.variables.ensures) c.in_ok-extend_from_slice.ensures.items
