use Rattle.std.proofs.Common.{◌≡◌, ◌++◌, take}
use Rattle.walk_summary.specs.Summaries.{sorted_views}
use Rattle.walk_summary.proofs.summary.merged_views.Given as goal

abbrev pub invariant-loop-view : goal.invariant-loop-view
invariant-loop-view l = l.views.items ≡ sorted_views (l.first ++ take l.view-index l.second)
