use Rattle.std.{specs.Int.w64, proofs.lemmas.Int.to_z-of_z}
use Rattle.std.proofs.Common.{◌≡◌, ◌∙◌, get_or, pos, ap, sym, arith, inl, inr, rules}
use Rattle.std.proofs.lemmas.{Bool.{cases_eq, false≢true}, List.ext_get_or}
use Rattle.std.specs.Int.{cast_signed}
use Rattle.semantics_machine.proofs.equal.same_values.Goals as goal

pub loop-place-preserved : goal.loop-place-preserved
loop-place-preserved c = λ k l. elim (cases_eq k c.loop-place.place) [
  | inl e ↦ ap (λ n. get_or c.args.first.now n (pos 0)) e
      ∙ ((sym (to_z-of_z w64 (get_or c.args.first.now c.loop-place.place (pos 0)) (search rules))
      ∙ (ap (cast_signed w64) c.if-first-place.false
      ∙ to_z-of_z w64 (get_or c.args.second.now c.loop-place.place (pos 0)) (search rules)))
      ∙ ap (λ n. get_or c.args.second.now n (pos 0)) (sym e))
  | inr ne ↦ c.loop-place.invariant k (omega (arith, l, ne))
]

pub returns : goal.returns
returns c = (
  λ e. ext_get_or (pos 0) c.args.first.now c.args.second.now c.if-first-second.false
      (λ k l. c.loop-place.invariant k (omega (arith, l))),
  λ e. search,
)
