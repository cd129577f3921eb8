use Rattle.std.proofs.Common.{◌≡◌, ◌≤◌, ◌-◌, false, length}
use Rattle.semantics_schedules.specs.declared.limits.TheConstants.{STEPS}
use Rattle.walk.specs.inner.Paths.{IsPath}
use Rattle.walk.specs.inner.WalkerInvariant.{GoesOn, IsFree, open_below, open_next}
use Rattle.walk.specs.inner.WalkerInvariant.{turns_into, turns_next}
use Rattle.walk.proofs.path.Path.run.Given as goal

abbrev pub invariant-loop-going : goal.invariant-loop-going
invariant-loop-going l = record {
  path : IsPath l.item.program l.self;
  search : GoesOn l.mode l.item
      l.fn.self l.fn.found (open_below l.mode l.item.program l.fn.self l.thread)
      l.self l.found (open_next l.mode l.item.program l.self l.thread l.going);
  free : l.going ≡ false → IsFree l.mode l.item.program l.self;
  falls : turns_next l.mode l.item.program l.self l.thread l.going
      ≤ turns_into l.mode l.item.program l.fn.self l.thread;
  tried : l.found.part.tried ≡ l.fn.found.part.tried;
}

abbrev pub decreases-loop-going : goal.decreases-loop-going
decreases-loop-going l = STEPS - length l.self.steps.items
