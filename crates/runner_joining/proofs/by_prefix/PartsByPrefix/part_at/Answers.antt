use Rattle.std.proofs.Common.{◌≡◌, ◌∙◌, [], None, Some, true, false, map, ap, sym, subst, arith}
use Rattle.std.{specs.List.{All, Contains}, specs.Option.option_copied, proofs.lemmas.List.take_all}
use Rattle.std.proofs.lemmas.List.Elements.{All-nil, All-more}
use denote.Ref.{Bor}
use Rattle.runner_parts.specs.declared.part.Part.{Part}
use Rattle.runner_joining.{specs.Parts.Tells, proofs.ByPrefix.{lines_are, line_in, none_tells}}
use Rattle.runner_joining.proofs.by_prefix.PartsByPrefix.part_at.Goals as goal

pub returns-in_default-clause-none : goal.returns-in_default-clause-none
returns-in_default-clause-none c =
    none_tells c.args.self.now.parts.now c.args.under.now c.args.bound []
    (lines_are c.args.self.now.parts.now c.args.self.now.by_prefix c.args.under.now None
    c.args.self.now.valid (ap option_copied (sym c.in_default.is) ∙ c.get.ensures.value))
    (All-nil (λ (x : Bor Part). Tells c.args.under.now c.args.bound x.now → ⊥))

pub loop-part-init : goal.loop-part-init
loop-part-init c = record {
  are = ap (map (λ (x : Bor Part). x.now)) c.deref-part-items.ensures.value
      ∙ lines_are c.args.self.now.parts.now c.args.self.now.by_prefix c.args.under.now
      (Some c.in-Some.parts.now) c.args.self.now.valid c.in-Some.ensures.value;
  none = All-nil (λ (x : Bor Part). Tells c.args.under.now c.args.bound x.now → ⊥);
}

pub returns-then-answers_for-clause-some : goal.returns-then-answers_for-clause-some
returns-then-answers_for-clause-some c = (
  subst (λ (x : Bor Part). Contains c.args.self.now.parts.now x.now) (sym c.part-item.is)
      (line_in c.args.self.now.parts.now c.args.under.now c.deref-part-items.result.now
      c.loop-part.part-index c.part-item.result c.loop-part.invariant.are c.loop-part-test.true),
  c.answers_for.ensures.0 c.if-answers_for.true,
)

pub loop-part-preserved : goal.loop-part-preserved
loop-part-preserved c = record {
  are = c.loop-part.invariant.are;
  none = All-more (λ (x : Bor Part). Tells c.args.under.now c.args.bound x.now → ⊥)
      c.deref-part-items.result.now c.loop-part.part-index c.part-item.result
      c.loop-part-test.true c.loop-part.invariant.none
      (subst (λ (x : Bor Part). Tells c.args.under.now c.args.bound x.now → ⊥) c.part-item.is
      (λ t.
      let f : true ≡ false = sym (c.answers_for.ensures.1 t) ∙ c.if-answers_for.false in absurd (cc)));
}

pub returns-clause-none : goal.returns-clause-none
returns-clause-none c =
    none_tells c.args.self.now.parts.now c.args.under.now c.args.bound
    c.deref-part-items.result.now c.loop-part.invariant.are
    (subst (All (λ (x : Bor Part). Tells c.args.under.now c.args.bound x.now → ⊥))
    (take_all c.loop-part.part-index c.deref-part-items.result.now
    (omega (arith, c.loop-part-test.false))) c.loop-part.invariant.none)
