use Rattle.std.proofs.Common.{◌≡◌, ◌+◌, ◌*◌, ◌-◌, cond, true, false, length}
use Rattle.semantics.specs.{Machine.Snapshot, declared.state.Status.TheVariants.Running}
use Rattle.semantics_machine.specs.inner.{Runs.{IsGoing, RunsAmong}, Steps.IsReadyIn}
use Rattle.semantics_machine.proofs.control.Control.run.Given as goal

abbrev pub invariant-loop-going : goal.invariant-loop-going
invariant-loop-going l = record {
  thread : l.moving.thread ≡ l.thread;
  running : l.going ≡ true → l.moving.status ≡ Running;
  one : l.fn.reach.further ≡ false → (l.going ≡ false) × (l.moving.steps ≡ 1);
  among : l.going ≡ true → RunsAmong l.moving l.self.enabled;
  heedless : l.moving.heedless ≡ l.fn.reach.heedless;
  going : (s : Snapshot) → IsReadyIn l.program s l.thread l.fn.self l.fn.shared l.fn.own
      → IsGoing l.program s l.thread l.self l.shared l.own l.moving;
}

abbrev pub decreases-loop-going : goal.decreases-loop-going
decreases-loop-going l = 2 * (length l.code - l.moving.place) + cond l.going 1 0
