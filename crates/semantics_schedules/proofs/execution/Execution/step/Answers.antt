use Rattle.std.proofs.Common.{◌+◌, ap, ◌∙◌}
use Rattle.semantics.specs.{Machine.step, Mask.one_if}
use Rattle.semantics_schedules.specs.Execution.{ExecutionView}
use Rattle.semantics_schedules.proofs.Executions.{reaches_parts, from_bool_is}
use Rattle.semantics_schedules.proofs.execution.Execution.step.Goals as goal

pub returns-clause-reached : goal.returns-clause-reached
returns-clause-reached c w h =
    let state = c.step.ensures.value ∙ ap (λ (e : ExecutionView). step c.args.program.now e.state
    c.args.thread) c.self.view_is in
    let switch = c.from.ensures ∙ (from_bool_is c.preempts-preempts.result ∙ ap one_if
    c.preempts-preempts.ensures) in
    reaches_parts c.args.program.now w c.args.self.now c.args.thread _ _ h c.requires.enabled state
    (λ i. (c.self.view_is i).preemptions + switch i)
