use Rattle.std.proofs.Common.{◌/◌, ◌^◌, ◌%◌, ◌≢◌, ◌∙◌, arith, below_more, sym, ap, inl, inr, nat_eq}
use Rattle.std.proofs.lemmas.{Bool.cases_lt, Nat.Bits.bit_at-zero}
use Rattle.semantics.proofs.WorkFalls.{disabled_past}
use Rattle.semantics.proofs.state.State.enabled.Goals as goal

pub loop-t-init : goal.loop-t-init
loop-t-init c = record {
  below = λ k h. absurd (omega arith);
  above = λ k h. ap (λ m. nat_eq (m.bits / 2 ^ k % 2) 1) c.empty-mask.ensures ∙
      ap (λ n. nat_eq n 1) (bit_at-zero k);
}

pub loop-t-preserved : goal.loop-t-preserved
loop-t-preserved c = record {
  below = below_more _ _
      (λ k h. let ne : k ≢ c.loop-t.t = omega arith in c.with-mask.ensures.others k ne ∙
      c.loop-t.invariant.below k h)
      (c.with-mask.ensures.same ∙ c.is_enabled.ensures);
  above = λ k h. let ne : k ≢ c.loop-t.t =
      omega arith in c.with-mask.ensures.others k ne ∙ c.loop-t.invariant.above k (omega arith);
}

pub returns : goal.returns
returns c = λ t. elim (cases_lt t c.loop-t.t) [
  | inl l ↦ c.loop-t.invariant.below t l
  | inr g ↦ c.loop-t.invariant.above t g ∙ sym
      (disabled_past c.args.program.now c.args.self.now t
      (let e = c.requires.threads in omega (arith, e)))
]
