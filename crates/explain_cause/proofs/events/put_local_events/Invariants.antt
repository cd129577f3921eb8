use Rattle.std.proofs.Common.{◌≡◌, ◌++◌, drop}
use Rattle.explain_cause.specs.Course.{local_events, locals_after}
use Rattle.explain_cause.proofs.events.put_local_events.Given as goal

abbrev pub invariant-loop-at : goal.invariant-loop-at
invariant-loop-at l = record {
  events : l.events.items
      ++ local_events l.run.thread l.run.step (drop l.at l.code) l.at l.skip l.locals
      ≡ l.fn.events.items ++ local_events l.run.thread l.run.step
      (drop l.run.from l.code) l.run.from 0 l.fn.locals;
  locals : locals_after l.locals
      (local_events l.run.thread l.run.step (drop l.at l.code) l.at l.skip l.locals)
      ≡ locals_after l.fn.locals (local_events l.run.thread l.run.step
      (drop l.run.from l.code) l.run.from 0 l.fn.locals);
}
