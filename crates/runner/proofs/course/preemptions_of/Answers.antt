use Rattle.std.proofs.Common.{◌≡◌, ◌∙◌, ap, subst, arith}
use Rattle.guest_code.specs.Program.{IsWellFormed}
use Rattle.semantics_schedules.specs.Schedules.{preemptions}
use Rattle.replay.specs.Run.{Run}
use Rattle.runner.proofs.Preemptions.{preemptions_fit}
use Rattle.runner.proofs.course.preemptions_of.Goals as goal

pub overflow_cast-result : goal.overflow_cast-result
overflow_cast-result c =
    let i = c.args.item.now in
    let few = preemptions_fit i.program i.prefix
    (subst IsWellFormed c.program-program.ensures c.programs_are_well_formed.ensures)
    c.prefix.ensures.runs in
    let same : c.preemptions.result ≡ preemptions i.program i.prefix =
    c.preemptions.ensures ∙ ap (λ (r : Run). r.preemptions) c.in_ok-run.ensures.run.same
    ∙ (λ k. preemptions (c.program-program.ensures k) (c.prefix.ensures.prefix k)) in
    omega (arith, few, same)
