use Rattle.std.specs.Prelude.{MatchOption}
use Rattle.std.proofs.Common.{rules, arith, ◌≡◌, ◌∙◌, ◌+◌, ◌∷◌, [], Option, not, ap, ◌<◌, ◌^◌, ℕ, false, Some, None, inl, inr}
use Rattle.std.{specs.Option.is_some, proofs.lemmas.Bool.cases_lt}
use Rattle.semantics.specs.{Mask.members_from, declared.mask.Mask.Mask}
use Rattle.semantics.proofs.Masks.{none_left, has-above}
use Rattle.semantics_machine.proofs.machine.is_empty.Goals as goal

nobody : (o : Option ℕ) (m : Mask) → is_some o ≡ false
    → MatchOption o (members_from m 0 ≡ []) (λ t. members_from m 0 ≡ t ∷ members_from m (t + 1))
    → members_from m 0 ≡ []
nobody None m e h = h
nobody (Some t) m e h = cc

pub returns-clause-none : goal.returns-clause-none
returns-clause-none c = λ e t.
    let fits : c.args.mask.bits < 2 ^ 16 = search rules in
    elim (cases_lt t 16) [
      | inl l ↦ none_left c.args.mask 0 t (nobody c.first_from.result c.args.mask
          (c.is_none.ensures ∙ ap not e) c.first_from.ensures.list) (omega arith) l
      | inr g ↦ has-above c.args.mask t fits g
    ]
