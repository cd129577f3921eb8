use Rattle.std.proofs.Common.{◌∙◌, ap, sym}
use Rattle.semantics.specs.Machine.{owner_of, owns}
use Rattle.replay.proofs.LinesOfSteps.{passed_more, passed_same}
use Rattle.explain_run.proofs.step.held_by.Goals.{then-owns+in_ok-push, else-owns}
use Rattle.explain_run.proofs.step.held_by.Goals as goal

pub loop-m-preserved : goal.loop-m-preserved
loop-m-preserved c =
    let s = c.args.state.now in
    let t = c.args.thread in
    let asked = sym (ap (owns t) c.owner.ensures) ∙ sym c.owns.ensures in
    elim c.if-owns.branch [
      | then-owns+in_ok-push w ↦
          (let pushed = ap (λ v. v.items) w.held-is ∙ w.in_ok-push.ensures.items in
          passed_more (λ m. owns t (owner_of s m)) c.loop-m.m c.loop-m.held.items _
          c.loop-m.invariant (asked ∙ w.if-owns.true) pushed)
      | else-owns w ↦ (let kept = ap (λ v. v.items) w.held-is in kept
          ∙ passed_same (λ m. owns t (owner_of s m)) c.loop-m.m c.loop-m.held.items
          c.loop-m.invariant (asked ∙ w.if-owns.false))
    ]
