use Rattle.std.proofs.Common.{◌≡◌, ◌<◌, take}
use Rattle.walk.specs.inner.Paths.{IsPath}
use Rattle.walk.proofs.path.Path.replay.Given as goal

abbrev pub invariant-loop-place : goal.invariant-loop-place
invariant-loop-place l = record {
  path : IsPath l.program l.self;
  frames : 0 < l.self.depth;
  steps : l.self.steps.items ≡ take l.place l.schedule;
}
