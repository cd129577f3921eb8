use Rattle.std.proofs.Common.{◌∙◌, ap, sym, arith}
use Rattle.std.proofs.lemmas.Bool.{false≢true}
use Rattle.semantics.{specs.Mask.has, proofs.Masks.empty_has}
use Rattle.semantics_machine.proofs.EqualThreads.{one_more_code, codes_decide}
use Rattle.semantics_machine.proofs.equal.lower_with_code_of.Goals as goal

pub loop-lower-init : goal.loop-lower-init
loop-lower-init c = λ u. (
  λ h. absurd (false≢true (sym (ap (λ w. has w u) c.empty-alike.ensures ∙ empty_has u) ∙ h)),
  λ h. absurd (omega (arith, h.0)),
)

pub loop-lower-preserved : goal.loop-lower-preserved
loop-lower-preserved c =
    let same = codes_decide c.code.result.now c.code-in-loop-lower.result.now in
    one_more_code c.args.program.now c.args.thread c.loop-lower.lower c.loop-lower.alike
    c.with-alike.result c.eq-same.result (
      λ e. sym c.code.ensures.code
          ∙ (same.0 (sym c.eq-same.ensures ∙ e) ∙ c.code-in-loop-lower.ensures.code),
      λ e. c.eq-same.ensures
          ∙ same.1 (c.code.ensures.code ∙ (e ∙ sym c.code-in-loop-lower.ensures.code)),
    ) c.with-alike.ensures.same c.with-alike.ensures.others c.loop-lower.invariant
