use Rattle.std.proofs.Common.{◌≡◌, ◌<◌, ◌^◌, ◌&&◌, ◌∙◌, Bool, true, false, not, Some, refl, ap, sym, arith, inl, inr, rules}
use Rattle.std.proofs.lemmas.Bool.{cases_eq, ne_eqb}
use Rattle.semantics.{specs.Mask.has, proofs.Masks.has-above}
use Rattle.semantics_schedules.specs.EqualThreads.{is_last}
use Rattle.semantics_machine.proofs.equal.without.Goals as goal

and_true : (b : Bool) → (b && true) ≡ b
and_true true = refl
and_true false = refl

pub returns-in_default : goal.returns-in_default
returns-in_default c = λ t.
    let m = c.args.mask in
    let one = c.in-Some.one in
    let fits : m.bits < 2 ^ 16 = search rules in
    sym (ap (λ o. has m t && not (is_last o t)) c.in-Some.is ∙ elim (cases_eq one t) [
      | inl e ↦ (let z : has m t ≡ false =
          has-above m t fits (omega (arith, e, c.if-one-lt-THREADS.false)) in
          ap (λ b. b && not (is_last (Some one) t)) z ∙ sym z)
      | inr d ↦ ap (λ b. has m t && not b) (ne_eqb one t d) ∙ and_true (has m t)
    ])
