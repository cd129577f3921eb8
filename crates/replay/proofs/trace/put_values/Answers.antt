use Rattle.std.proofs.Common.{rules, pos, w64, get_or}
use Rattle.std.specs.Prelude.{FitsSigned}
use Rattle.std.proofs.lemmas.Int.{to_z-of_z}
use Rattle.replay.proofs.TraceTexts.{values_more}
use Rattle.replay.proofs.trace.put_values.Goals as goal

pub loop-x-preserved : goal.loop-x-preserved
loop-x-preserved c =
    let value = get_or c.args.values.now c.loop-x.x (pos 0) in
    let fits : FitsSigned w64 value = search rules in
    values_more c.args.program.now c.args.values.now c.loop-x.x c.args.text.now.items
    c.loop-x.text.items _ _ _ _ (pos 0) c.loop-x-test.true c.loop-x.invariant
    c.in_ok-put_two_texts.ensures c.variable_name.ensures c.in_ok-put_value.ensures
    (to_z-of_z w64 value fits)
