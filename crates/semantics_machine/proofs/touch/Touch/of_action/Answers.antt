use Rattle.std.proofs.Common.{◌+◌, ◌*◌, ◌∙◌, Some, ap, sym}
use Rattle.semantics_machine.{specs.Touches.touch_of, proofs.TouchBits.{one_written, two_written}}
use Rattle.semantics_machine.proofs.touch.Touch.of_action.Goals as goal

pub returns-in-OnMutex : goal.returns-in-OnMutex
returns-in-OnMutex c = one_written c.writing.result (4 * c.in-OnMutex.m + 1)
    c.writing.ensures.all c.writing.ensures.written
    ∙ ap (λ a. touch_of (Some a)) (sym c.in-OnMutex.is)

pub returns-in-Wait : goal.returns-in-Wait
returns-in-Wait c = two_written c.writing-in-Wait.result c.writing-in-Wait-2.result
    c.union.result (4 * c.in-Wait.c + 2) (4 * c.in-Wait.m + 1)
    c.writing-in-Wait.ensures.all c.writing-in-Wait.ensures.written
    c.writing-in-Wait-2.ensures.all c.writing-in-Wait-2.ensures.written
    c.union.ensures.all c.union.ensures.written
    ∙ ap (λ a. touch_of (Some a)) (sym c.in-Wait.is)

pub returns-in-OnCondition : goal.returns-in-OnCondition
returns-in-OnCondition c = one_written c.writing-in-OnCondition.result
    (4 * c.in-OnCondition.c + 2) c.writing-in-OnCondition.ensures.all
    c.writing-in-OnCondition.ensures.written
    ∙ ap (λ a. touch_of (Some a)) (sym c.in-OnCondition.is)

pub returns-in-OnSemaphore : goal.returns-in-OnSemaphore
returns-in-OnSemaphore c = one_written c.writing-in-OnSemaphore.result
    (4 * c.in-OnSemaphore.k + 3) c.writing-in-OnSemaphore.ensures.all
    c.writing-in-OnSemaphore.ensures.written
    ∙ ap (λ a. touch_of (Some a)) (sym c.in-OnSemaphore.is)
