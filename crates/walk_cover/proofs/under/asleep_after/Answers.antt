use Rattle.std.proofs.Common.{◌+◌, ◌∙◌, sym, subst, get_or}
use Rattle.std.proofs.lemmas.List.{get_or_default}
use Rattle.semantics.specs.Machine.{Snapshot}
use Rattle.walk_cover.proofs.Asleep.{IsTaken, taken_none, taken_more, taken_asleep}
use Rattle.walk_cover.proofs.under.asleep_after.Goals as goal

pub loop-thread-init : goal.loop-thread-init
loop-thread-init c =
    taken_none c.args.program.now c.args.prefix.now _ _ c.in_ok-state.ensures.value
    c.in_ok-state.ensures.of c.empty-asleep.ensures c.requires

pub returns-then-has : goal.returns-then-has
returns-then-has c =
    taken_asleep c.args.program.now c.args.prefix.now c.loop-thread.thread-index
    c.loop-thread.state c.loop-thread.asleep (get_or c.args.prefix.now c.loop-thread.thread-index 0)
    c.loop-thread.invariant c.loop-thread-test.true
    (get_or_default c.args.prefix.now c.loop-thread.thread-index 0 _ c.loop-thread-test.true)
    (sym c.has.ensures ∙ c.if-has.true)

pub loop-thread-preserved : goal.loop-thread-preserved
loop-thread-preserved c =
    subst (λ (s : Snapshot). IsTaken c.args.program.now c.args.prefix.now
    (c.loop-thread.thread-index + 1) s c.sleep_set_after-asleep.result) (sym c.step.ensures.value)
    (taken_more c.args.program.now c.args.prefix.now c.loop-thread.thread-index
    c.loop-thread.state c.loop-thread.asleep c.sleep_set_after-asleep.result
    (get_or c.args.prefix.now c.loop-thread.thread-index 0) c.loop-thread.invariant
    c.loop-thread-test.true
    (get_or_default c.args.prefix.now c.loop-thread.thread-index 0 _ c.loop-thread-test.true)
    (sym c.has.ensures ∙ c.if-has.false) c.sleep_set_after-asleep.ensures)
