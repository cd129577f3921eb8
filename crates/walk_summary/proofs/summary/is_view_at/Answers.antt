use Rattle.std.proofs.Common.{◌≡◌, ◌∙◌, sym, ap, rules}
use Rattle.std.specs.Cmp.Rules.{signed_items}
use Rattle.semantics.specs.contracts.view.Kind as kind-type
use Rattle.walk_summary.{specs.Summaries.end_with, proofs.SortedViews.with_view_there}
use Rattle.walk_summary.proofs.summary.is_view_at.Goals as goal
use denote.Enum.Bare.{same_true}

pub returns-then-eq : goal.returns-then-eq
returns-then-eq c = λ equal.
    let v = end_with c.args.kind c.args.values.now in
    let end = c.in-Some.end.now in
    let kinds : end.kind ≡ v.kind = sym c.kind.ensures
    ∙ same_true kind-type.the_type (search rules) c.kind.result c.args.kind
    (sym c.eq.ensures ∙ c.if-eq.true) in
    let values : end.vars ≡ v.vars = sym c.vars.ensures
    ∙ (signed_items c.vars.result.now c.args.values.now).0
    (sym c.eq-then-eq.ensures ∙ equal) in
    let inside = c.in-Some.ensures.lookup.3.0 in
    let same : v ≡ end = ap (λ k. record { kind = k; vars = v.vars }) (sym kinds)
    ∙ ap (λ vs. record { kind = end.kind; vars = vs }) (sym values) in (
      inside,
      with_view_there v c.args.ends.now c.args.index end c.requires inside
          (same ∙ c.in-Some.ensures.lookup.1),
    )
