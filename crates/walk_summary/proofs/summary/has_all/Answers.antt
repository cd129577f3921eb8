use Rattle.std.proofs.Common.{◌≡◌, ◌∙◌, sym, ap}
use Rattle.walk_summary.specs.Summaries.{with_view, end_with}
use Rattle.walk_summary.proofs.SortedViews.{sorted_views-alone, sorted_views-had}
use Rattle.walk_summary.proofs.summary.has_all.Goals as goal

pub loop-view-init : goal.loop-view-init
loop-view-init c = sorted_views-alone c.args.ends.now c.requires

pub loop-view-preserved : goal.loop-view-preserved
loop-view-preserved c =
    let v = c.view-item.result in
    let ends = c.args.ends.now in
    let same : end_with c.kind.result c.vars.result.now ≡ v
    = λ i. record { kind = c.kind.ensures i; vars = c.vars.ensures i } in
    sorted_views-had ends c.args.views.now c.loop-view.view-index v c.loop-view-test.true
    (ap (λ w. with_view w ends) (sym (same ∙ c.view-item.is)) ∙ c.in-Ok.ensures.1)
    c.loop-view.invariant
