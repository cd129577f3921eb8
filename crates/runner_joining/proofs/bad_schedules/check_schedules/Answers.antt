use Rattle.std.proofs.Common.{◌≡◌, ◌∙◌, ◌∷◌, ◌++◌, [], true, false, ap, sym, subst, refl, take, arith}
use Rattle.std.{specs.List.All, proofs.lemmas.List.{take_more, take_all}}
use Rattle.std.proofs.lemmas.List.Elements.{All-push}
use Rattle.runner_joining.specs.Parts.{IsTrue}
use Rattle.runner_joining.proofs.bad_schedules.check_schedules.Goals as goal

pub returns-then-not-branch-clause-error : goal.returns-then-not-branch-clause-error
returns-then-not-branch-clause-error c = λ search. (
  c.part-item.result,
  (c.loop-part.part-index, c.loop-part-test.true, sym c.part-item.is),
  record {
    under = sym (c.in_ok-to_vec.ensures.items_if_clones_equal (λ x y e. e)
        ∙ c.as_slice.ensures.value);
    bound = refl;
  },
  λ t.
      let f : true ≡ false =
      sym (c.in_ok-is_truthful.ensures.value.1 t) ∙ c.if-not-branch.true in absurd (cc),
)

pub loop-part-preserved : goal.loop-part-preserved
loop-part-preserved c =
    subst (All (IsTrue c.args.program.now))
    (ap (λ y. take c.loop-part.part-index c.args.parts.now ++ y ∷ []) c.part-item.is
    ∙ sym (take_more c.args.parts.now c.loop-part.part-index c.part-item.result
    c.loop-part-test.true))
    (All-push (IsTrue c.args.program.now) (take c.loop-part.part-index c.args.parts.now)
    c.part-item.result c.loop-part.invariant
    (c.in_ok-is_truthful.ensures.value.0 c.if-not-branch.false))

pub returns-clause-all : goal.returns-clause-all
returns-clause-all c =
    subst (All (IsTrue c.args.program.now)) (take_all c.loop-part.part-index c.args.parts.now
    (omega (arith, c.loop-part-test.false))) c.loop-part.invariant
