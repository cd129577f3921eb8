use Rattle.std.proofs.Common.{rules, ◌++◌, ◌∙◌, sym, subst, take}
use Rattle.std.specs.List.Sorted.{IsStrictlySortedBy}
use Rattle.semantics.specs.View.{view_cmp}
use Rattle.walk_summary.proofs.SortedViews.{sorted_views-alone, sorted_views-more, sorted_views-sorted}
use Rattle.walk_summary.proofs.summary.merged_views.Goals as goal

pub loop-view-init : goal.loop-view-init
loop-view-init c =
    c.in_ok-views.ensures ∙ sym (sorted_views-alone c.args.first.now c.requires)

pub insert_view-requires : goal.insert_view-requires
insert_view-requires c =
    subst (IsStrictlySortedBy view_cmp) (sym c.loop-view.invariant)
    (sorted_views-sorted (c.args.first.now ++ take c.loop-view.view-index c.args.second.now))

pub loop-view-preserved : goal.loop-view-preserved
loop-view-preserved c =
    search (rules, sorted_views-more c.args.first.now c.args.second.now c.loop-view.view-index)
