use Rattle.std.proofs.Common.{◌∙◌, ◌++◌, sym, ap, arith}
use Rattle.guest_code.specs.declared.program.Instruction.TheVariants.{Skip}
use Rattle.explain_cause.{specs.Course.locals_after, proofs.Runs.jumped}
use Rattle.explain_cause.proofs.events.put_local_events.Goals as goal

pub loop-at-preserved-then-skip-gt0 : goal.loop-at-preserved-then-skip-gt0
loop-at-preserved-then-skip-gt0 c =
    let on = jumped c.args.run.thread c.args.run.step c.args.code.now c.loop-at.at c.loop-at.skip
    c.loop-at.locals (Skip 0) (omega arith) (omega arith) in record {
      events = ap (λ es. c.loop-at.events.items ++ es) (sym on) ∙ c.loop-at.invariant.events;
      locals = ap (λ es. locals_after c.loop-at.locals es) (sym on) ∙ c.loop-at.invariant.locals;
    }
