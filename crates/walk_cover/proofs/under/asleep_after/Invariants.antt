use Rattle.walk_cover.proofs.Asleep.{IsTaken}
use Rattle.walk_cover.proofs.under.asleep_after.Given as goal

abbrev pub invariant-loop-thread : goal.invariant-loop-thread
invariant-loop-thread l = IsTaken l.program l.prefix l.thread-index l.state l.asleep
