use Rattle.std.specs.Option.{MatchOption, is_some}
use Rattle.std.proofs.Common.{◌≡◌, ◌∙◌, ◌<◌, ◌+◌, ℕ, List, [], ◌∷◌, Option, Some, None, get_or, false, ap, sym, arith, inl, inr}
use Rattle.std.proofs.lemmas.Bool.{cases_eq}
use Rattle.semantics.{specs.Mask.{has, members_from, no_threads}, specs.declared.mask.Mask.Mask, proofs.Masks.none_left}
use Rattle.semantics_machine.proofs.equal.with_some.Goals as goal

-- a set without a first member has none
none_of : (m : Mask) (u : ℕ) (o : Option ℕ)
    → MatchOption o (members_from m 0 ≡ []) (λ t. members_from m 0 ≡ t ∷ members_from m (t + 1))
    → is_some o ≡ false → u < 16 → has m u ≡ false
none_of m u None list out near = none_left m 0 u list (omega arith) near
none_of m u (Some t) list out near = cc

pub loop-thread-preserved : goal.loop-thread-preserved
loop-thread-preserved c = λ t u l out near. elim (cases_eq t c.loop-thread.thread) [
  | inl e ↦ ap (λ n. has (get_or c.args.sets.now n no_threads) u) e
      ∙ none_of _ u c.first_from-first.result c.first_from-first.ensures.list
      (sym c.is_some.ensures
      ∙ (sym c.with-some.ensures.same ∙ (sym (ap (has c.with-some.result) e) ∙ out))) near
  | inr ne ↦ c.loop-thread.invariant t u (omega (arith, l, ne))
      (sym (c.with-some.ensures.others t ne) ∙ out) near
]
