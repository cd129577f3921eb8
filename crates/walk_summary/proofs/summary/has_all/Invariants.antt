use Rattle.std.proofs.Common.{◌≡◌, ◌++◌, take}
use Rattle.walk_summary.specs.Summaries.{sorted_views}
use Rattle.walk_summary.proofs.summary.has_all.Given as goal

abbrev pub invariant-loop-view : goal.invariant-loop-view
invariant-loop-view l = sorted_views (l.ends ++ take l.view-index l.views) ≡ l.ends
