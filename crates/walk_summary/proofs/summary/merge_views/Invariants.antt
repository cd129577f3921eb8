use Rattle.std.proofs.Common.{◌≡◌, ◌≤◌, ◌+◌, ◌++◌, vec_len, vec_capacity}
use Rattle.std.specs.List.Sorted.{IsStrictlySortedBy}
use Rattle.semantics.specs.View.{view_cmp}
use Rattle.walk_summary.specs.Summaries.{sorted_views}
use Rattle.walk_summary.proofs.summary.merge_views.Given as goal

abbrev pub invariant-loop-view : goal.invariant-loop-view
invariant-loop-view l = record {
  sorted : IsStrictlySortedBy view_cmp l.ends.items;
  same : sorted_views (l.ends.items ++ l.views.items)
      ≡ sorted_views (l.initial.ends.items ++ l.initial.views.items);
  room : vec_len l.ends + vec_len l.views ≤ vec_capacity l.ends;
}

abbrev pub decreases-loop-view : goal.decreases-loop-view
decreases-loop-view l = vec_len l.views
