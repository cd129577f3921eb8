use Rattle.std.proofs.Common.{◌∙◌, ◌++◌}
use Rattle.walk_summary.{specs.Summaries.sorted_views, proofs.SumsJoin.parts_joined}
use Rattle.walk_summary.proofs.summary.Summary.join.Goals as goal

pub invariant_of-result : goal.invariant_of-result
invariant_of-result c =
    parts_joined _ _ _ _ _ _ _ _ c.self.invariant c.other.invariant
    c.saturating_add.ensures c.saturating_add-2.ensures c.saturating_add-3.ensures
    c.in_ok-copy_lesser.ensures
    (c.in_ok-merged_views.ensures
    ∙ (λ i. sorted_views (c.as_slice.ensures.value i ++ c.as_slice-2.ensures.value i)))
