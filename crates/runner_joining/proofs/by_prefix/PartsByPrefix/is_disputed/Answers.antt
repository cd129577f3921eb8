use Rattle.std.proofs.Common.{◌≡◌, ◌∙◌, [], None, Some, true, false, refl, map, ap, sym, subst, arith}
use Rattle.std.{specs.List.{All, Contains}, specs.Option.option_copied, proofs.lemmas.List.take_all}
use Rattle.std.proofs.lemmas.List.Elements.{All-nil, All-more}
use denote.Ref.{Bor}
use Rattle.runner_parts.specs.declared.part.Part.{Part}
use Rattle.runner_joining.specs.{Parts.Differ, inner.Lines.parts_under}
use Rattle.runner_joining.proofs.ByPrefix.{lines_are, line_in, none_differs}
use Rattle.runner_joining.proofs.by_prefix.PartsByPrefix.is_disputed.Goals as goal

pub returns-in_default : goal.returns-in_default
returns-in_default c = (
  λ f. absurd (cc),
  λ h. absurd (none_differs c.args.self.now.parts.now c.args.part.now []
      (lines_are c.args.self.now.parts.now c.args.self.now.by_prefix c.as_slice.result.now None
      c.args.self.now.valid (ap option_copied (sym c.in_default.is) ∙ c.get.ensures.value)
      ∙ ap (parts_under c.args.self.now.parts.now) c.as_slice.ensures.value)
      (All-nil (λ (x : Bor Part). Differ c.args.part.now x.now → ⊥)) h.0 h.1 h.2),
)

pub loop-other-init : goal.loop-other-init
loop-other-init c = record {
  are = ap (map (λ (x : Bor Part). x.now)) c.deref-other-items.ensures.value
      ∙ (lines_are c.args.self.now.parts.now c.args.self.now.by_prefix c.as_slice.result.now
      (Some c.in-Some.parts.now) c.args.self.now.valid c.in-Some.ensures.value
      ∙ ap (parts_under c.args.self.now.parts.now) c.as_slice.ensures.value);
  none = All-nil (λ (x : Bor Part). Differ c.args.part.now x.now → ⊥);
}

pub returns-then-disagree : goal.returns-then-disagree
returns-then-disagree c = (
  λ _. (
    c.other-item.result.now,
    subst (λ (x : Bor Part). Contains c.args.self.now.parts.now x.now) (sym c.other-item.is)
        (line_in c.args.self.now.parts.now c.args.part.now.under.items
        c.deref-other-items.result.now c.loop-other.other-index c.other-item.result
        c.loop-other.invariant.are
        c.loop-other-test.true),
    c.disagree.ensures.0 c.if-disagree.true,
  ),
  λ _. refl,
)

pub loop-other-preserved : goal.loop-other-preserved
loop-other-preserved c = record {
  are = c.loop-other.invariant.are;
  none = All-more (λ (x : Bor Part). Differ c.args.part.now x.now → ⊥)
      c.deref-other-items.result.now c.loop-other.other-index c.other-item.result
      c.loop-other-test.true
      c.loop-other.invariant.none
      (subst (λ (x : Bor Part). Differ c.args.part.now x.now → ⊥) c.other-item.is
      (λ d.
      let f : true ≡ false = sym (c.disagree.ensures.1 d) ∙ c.if-disagree.false in absurd (cc)));
}

pub returns : goal.returns
returns c = (
  λ f. absurd (cc),
  λ h. absurd (none_differs c.args.self.now.parts.now c.args.part.now c.deref-other-items.result.now
      c.loop-other.invariant.are
      (subst (All (λ (x : Bor Part). Differ c.args.part.now x.now → ⊥))
      (take_all c.loop-other.other-index c.deref-other-items.result.now
      (omega (arith, c.loop-other-test.false))) c.loop-other.invariant.none) h.0 h.1 h.2),
)
