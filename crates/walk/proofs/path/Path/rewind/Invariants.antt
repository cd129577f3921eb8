use Rattle.std.proofs.Common.{◌<◌}
use Rattle.walk.proofs.path.Path.rewind.Given as goal

abbrev pub invariant-loop-depth : goal.invariant-loop-depth
invariant-loop-depth l = record {
  there : l.depth < l.self.depth;
}

abbrev pub decreases-loop-depth : goal.decreases-loop-depth
decreases-loop-depth l = l.depth
