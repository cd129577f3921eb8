use Rattle.std.proofs.Common.{◌≡◌, ◌∙◌, ◌∷◌, ◌++◌, [], List, true, false, ap, sym, subst, refl, take, arith}
use Rattle.std.{specs.List.{All, Contains}, proofs.lemmas.List.{take_more, take_all}}
use Rattle.std.proofs.lemmas.List.Elements.{All-push, All-contains}
use Rattle.runner_parts.specs.declared.part.Part.{Part}
use Rattle.runner_joining.specs.Parts.{Differ}
use Rattle.runner_joining.proofs.by_prefix.PartsByPrefix.check_agreement.Goals as goal

abbrev IsAgreed : List Part → Part → Type 0
IsAgreed parts y = ((x : Part) × Contains parts x × Differ y x) → ⊥

pub returns-then-is_disputed-clause-error : goal.returns-then-is_disputed-clause-error
returns-then-is_disputed-clause-error c = λ p search.
    let h = c.is_disputed.ensures.0 c.if-is_disputed.true in
    record {
      one = c.part-item.result;
      other = h.0;
      first = (c.loop-part.part-index, c.loop-part-test.true, sym c.part-item.is);
      second = h.1;
      of = record {
        under = sym (c.in_ok-to_vec.ensures.items_if_clones_equal (λ x y e. e)
            ∙ c.as_slice.ensures.value);
        bound = refl;
      };
      differ = h.2;
    }

pub loop-part-preserved : goal.loop-part-preserved
loop-part-preserved c =
    subst (All (IsAgreed c.args.self.now.parts.now))
    (ap (λ y. take c.loop-part.part-index c.args.self.now.parts.now ++ y ∷ []) c.part-item.is
    ∙ sym (take_more c.args.self.now.parts.now c.loop-part.part-index c.part-item.result
    c.loop-part-test.true))
    (All-push (IsAgreed c.args.self.now.parts.now)
    (take c.loop-part.part-index c.args.self.now.parts.now) c.part-item.result
    c.loop-part.invariant (λ h.
    let f : true ≡ false =
    sym (c.is_disputed.ensures.1 h) ∙ c.if-is_disputed.false in absurd (cc)))

pub returns-clause-agree : goal.returns-clause-agree
returns-clause-agree c = λ place a.
    All-contains (IsAgreed c.args.self.now.parts.now) c.args.self.now.parts.now a.one
    (subst (All (IsAgreed c.args.self.now.parts.now))
    (take_all c.loop-part.part-index c.args.self.now.parts.now
    (omega (arith, c.loop-part-test.false))) c.loop-part.invariant) a.first
    (a.other, a.second, a.differ)
