use Rattle.std.proofs.Common.{arith, ◌<◌, ◌∙◌, ap, sym, subst, All, length}
use Rattle.std.proofs.lemmas.List.Elements.{All-push}
use Rattle.semantics.specs.{Ends.is_stopped, Machine.thread_at}
use Rattle.replay.proofs.LinesOfSteps.{passed_more, passed_same}
use Rattle.replay.proofs.run.stopped_threads.Goals.{then-has_stopped+in_ok-push, else-has_stopped}
use Rattle.replay.proofs.run.stopped_threads.Goals as goal

pub loop-t-preserved : goal.loop-t-preserved
loop-t-preserved c =
    let s = c.args.state.now in
    let asked = sym (ap is_stopped c.status.ensures) ∙ sym c.has_stopped.ensures in
    elim c.if-has_stopped.branch [
      | then-has_stopped+in_ok-push w ↦
          (let pushed = ap (λ v. v.items) w.stopped-is ∙ w.in_ok-push.ensures.items in record {
            value = passed_more (λ t. is_stopped (thread_at s t).status) c.loop-t.t
                c.loop-t.stopped.items _ c.loop-t.invariant.value (asked ∙ w.if-has_stopped.true)
                pushed;
            fine = subst (All (λ t. t < length c.args.program.now.threads)) (sym pushed)
                (All-push (λ t. t < length c.args.program.now.threads) c.loop-t.stopped.items
                c.loop-t.t c.loop-t.invariant.fine
                (omega (arith, c.loop-t-test.true, c.threads-t-end.ensures.number)));
          })
      | else-has_stopped w ↦ (let kept = ap (λ v. v.items) w.stopped-is in record {
        value = kept
            ∙ passed_same (λ t. is_stopped (thread_at s t).status) c.loop-t.t
            c.loop-t.stopped.items c.loop-t.invariant.value (asked ∙ w.if-has_stopped.false);
        fine = subst (All (λ t. t < length c.args.program.now.threads)) (sym kept)
            c.loop-t.invariant.fine;
      })
    ]
