use Rattle.std.proofs.Common.{◌∙◌, ℕ, ◌+◌, length, sym, subst, refl, arith}
use Rattle.std.proofs.lemmas.Option.{slice_get_read}
use Rattle.explain_waits.{specs.inner.Taking.AreFates, proofs.TakenSteps.{passed_own, passed_other}}
use Rattle.explain_waits.proofs.fate.mark_all_taken.Goals.{then-step-thread, else-step-thread}
use Rattle.explain_waits.proofs.fate.mark_all_taken.Goals as goal

pub loop-place-preserved : goal.loop-place-preserved
loop-place-preserved c = λ code from locals begun.
    let steps = c.args.steps.now in
    let t = c.args.thread in
    let n = c.loop-place.place in
    let fates = c.loop-place.fates in
    let step = c.index-steps-place.result in
    let at = slice_get_read steps (length steps) n step refl c.loop-place-test.true
    c.index-steps-place.is in
    let before = c.loop-place.invariant code from locals begun in
    elim c.if-step-thread.branch [
      | then-step-thread w ↦ subst (AreFates code from locals steps t (n + 1))
          (sym (w.fates-is ∙ w.mark_taken.ensures))
          (passed_own code from locals steps t n step fates at w.if-step-thread.true before)
      | else-step-thread w ↦ subst (AreFates code from locals steps t (n + 1)) (sym w.fates-is)
          (passed_other code from locals steps t n step fates at w.if-step-thread.false before)
    ]

pub returns : goal.returns
returns c = λ code from locals begun.
    let P : ℕ → Type 0 = λ n. AreFates code from locals c.args.steps.now c.args.thread n
    c.loop-place.fates in
    subst P (omega (arith, c.loop-place-test.false, c.loop-place.auto.place-end))
    (c.loop-place.invariant code from locals begun)
