use Rattle.std.proofs.Common.{arith, refl, sym, subst, All, length-take}
use Rattle.std.proofs.lemmas.List.Elements.{All-push}
use Rattle.replay.{specs.Trace.IsValidLine, proofs.LinesOfSteps.{few_so_far, told_more}}
use Rattle.replay.proofs.run.replay.Goals as goal

pub take_step-requires-clause-room : goal.take_step-requires-clause-room
take_step-requires-clause-room c =
    let few = few_so_far c.args.program.now c.args.schedule.now c.loop-at.at c.loop-at.execution
    c.loop-at.lines.items c.loop-at.invariant.told in
    let taken = length-take c.loop-at.at c.args.schedule.now in
    omega (arith, few, taken)

pub loop-at-preserved : goal.loop-at-preserved
loop-at-preserved c =
    let step = c.in_ok-line.ensures in
    record {
      of = step.of;
      told = told_more c.args.program.now c.args.schedule.now c.loop-at.at c.loop-at.execution _
          c.loop-at.lines.items _ _ c.in_ok-line.line c.loop-at-test.true refl
          c.loop-at.invariant.told step.enabled step.told step.value c.in_ok-push.ensures.items;
      valid = subst (All (IsValidLine c.args.program.now)) (sym c.in_ok-push.ensures.items)
          (All-push (IsValidLine c.args.program.now) c.loop-at.lines.items c.in_ok-line.line
          c.loop-at.invariant.valid step.valid);
    }
