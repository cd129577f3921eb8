use Rattle.std.proofs.Common.{◌∙◌, sym, ap}
use Rattle.semantics_schedules.specs.Sleep.{apart, independent}
use Rattle.semantics_schedules.proofs.DependentSteps.{independent-itself}
use Rattle.semantics_schedules.proofs.IndependentStepsCommute.{both_orders, independent-differ}
use Rattle.semantics_schedules.proofs.independence.independent.Goals as goal

pub returns-then-thread-other-clause-value : goal.returns-then-thread-other-clause-value
returns-then-thread-other-clause-value c =
    sym (ap (independent c.args.program.now c.args.state.now c.args.thread)
    (sym c.if-thread-other.true)
    ∙ independent-itself c.args.program.now c.args.state.now c.args.thread)

pub returns-clause-value : goal.returns-clause-value
returns-clause-value c =
    c.are_next_steps_independent.ensures
    ∙ ((λ i. apart (c.next_action.ensures.value i) (c.next_action-2.ensures.value i))
    ∙ sym (independent-differ c.args.program.now c.args.state.now c.args.thread c.args.other
    c.if-thread-other.false))

pub returns-clause-commute : goal.returns-clause-commute
returns-clause-commute c = λ h.
    both_orders c.args.program.now c.args.state.now c.args.thread c.args.other
    (sym (returns-clause-value c) ∙ h)
