use Rattle.std.proofs.Common.{length}
use Rattle.walk_summary.proofs.end_memory.EndMemory.recycle.Given as goal

abbrev pub decreases-loop-view : goal.decreases-loop-view
decreases-loop-view l = length l.views.items
