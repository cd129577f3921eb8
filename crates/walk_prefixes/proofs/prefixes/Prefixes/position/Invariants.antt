use Rattle.std.proofs.Common.{◌≤◌, take, length}
use Rattle.walk_prefixes.proofs.PackedPrefixes.{Seeks}
use Rattle.walk_prefixes.proofs.prefixes.Prefixes.position.Given as goal

abbrev pub invariant-loop-left : goal.invariant-loop-left
invariant-loop-left l = (l.seeker.end ≤ length l.deltas) × Seeks l.self l.prefix l.left l.place (take l.seeker.end l.deltas)
    l.seeker.steps l.seeker.shared l.seeker.removed

abbrev pub decreases-loop-left : goal.decreases-loop-left
decreases-loop-left l = l.left
