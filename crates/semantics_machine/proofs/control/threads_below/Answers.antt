use Rattle.std.proofs.Common.{arith, ◌≡◌, ◌≢◌, ◌+◌, ◌∙◌, nat_lt, true, false, ap, sym, inl, inr}
use Rattle.std.proofs.lemmas.Bool.{cases_order, Decides.nat_tests}
use Rattle.semantics.{specs.Mask.has, proofs.Masks.empty_has}
use Rattle.semantics_machine.proofs.control.threads_below.Goals as goal

pub loop-t-init : goal.loop-t-init
loop-t-init c = λ u. ap (λ w. has w u) c.empty-all.ensures ∙ (empty_has u
    ∙ (let z : nat_lt u 0 ≡ false = grind (arith, nat_tests) in sym z))

pub loop-t-preserved : goal.loop-t-preserved
loop-t-preserved c = λ u. elim (cases_order u c.loop-t.t) [
  | inl e ↦ (let z : nat_lt u (c.loop-t.t + 1) ≡ true = grind (arith, nat_tests, e) in
      ap (has c.with-all.result) e ∙ (c.with-all.ensures.same ∙ sym z))
  | inr (inl l) ↦ (let ne : u ≢ c.loop-t.t = omega (arith, l) in
      let y : nat_lt u c.loop-t.t ≡ true = grind (arith, nat_tests, l) in
      let z : nat_lt u (c.loop-t.t + 1) ≡ true = grind (arith, nat_tests, l) in
      c.with-all.ensures.others u ne ∙ (c.loop-t.invariant u ∙ (y ∙ sym z)))
  | inr (inr l) ↦ (let ne : u ≢ c.loop-t.t = omega (arith, l) in
      let y : nat_lt u c.loop-t.t ≡ false = grind (arith, nat_tests, l) in
      let z : nat_lt u (c.loop-t.t + 1) ≡ false = grind (arith, nat_tests, l) in
      c.with-all.ensures.others u ne ∙ (c.loop-t.invariant u ∙ (y ∙ sym z)))
]
