use Rattle.std.proofs.Common.{◌≡◌, take}
use Rattle.walk_summary.proofs.summary.copy_views.Given as goal

abbrev pub invariant-loop-view : goal.invariant-loop-view
invariant-loop-view l = l.copies.items ≡ take l.view-index l.views
