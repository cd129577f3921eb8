use Rattle.std.proofs.Common.{sym, ◌∙◌, ap}
use Rattle.semantics_machine.{specs.inner.Steps.going_on, proofs.Landings.free_there}
use Rattle.semantics_machine.proofs.LocalRuns.{stays}
use Rattle.semantics_machine.proofs.control.steps.land.Goals as goal

pub returns-in-Running-clause-free : goal.returns-in-Running-clause-free
returns-in-Running-clause-free c =
    free_there c.args.code.now c.run_local.result c.run_local.ensures.free

pub returns-in-Running-clause-thread : goal.returns-in-Running-clause-thread
returns-in-Running-clause-thread c = c.run_local.ensures.value
    ∙ sym (ap (λ w. going_on c.args.code.now w c.args.place c.args.own.now) c.in-Running.is)

pub returns-in_default-clause-thread : goal.returns-in_default-clause-thread
returns-in_default-clause-thread c =
    stays c.args.code.now c.args.status c.args.place c.args.own.now c.in_default.not-Running
