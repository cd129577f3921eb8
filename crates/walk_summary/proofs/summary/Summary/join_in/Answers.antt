use Rattle.std.proofs.Common.{◌∙◌, ap}
use Rattle.semantics_schedules.specs.Order.{lesser}
use Rattle.walk_summary.specs.Summaries.{schedule_view}
use Rattle.walk_summary.proofs.SumsJoin.{parts_joined, left_kept, none_bad_kept}
use Rattle.walk_summary.proofs.summary.Summary.join_in.Goals as goal

pub invariant_of-self-2 : goal.invariant_of-self-2
invariant_of-self-2 c =
    parts_joined _ _ _ _ _ _ _ _ c.self.invariant c.other.invariant
    c.raise_count.ensures c.raise_count-2.ensures c.raise_count-3.ensures
    (c.replace_if_lesser.ensures
    ∙ ap (λ f. lesser (schedule_view c.self.inside.first_bad) (schedule_view f)) c.take.ensures.value)
    c.in_ok-merge_views.ensures.joined

pub invariant_of-other : goal.invariant_of-other
invariant_of-other c = left_kept _ _ c.other.invariant c.merge_views.ensures.left

pub invariant_of-other-2 : goal.invariant_of-other-2
invariant_of-other-2 c =
    none_bad_kept _ _ _ _ (left_kept _ _ c.other.invariant c.merge_views.ensures.left)
    c.reset_count.ensures c.reset_count-2.ensures (ap schedule_view c.take.ensures.after)
