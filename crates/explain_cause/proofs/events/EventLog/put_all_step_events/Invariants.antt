use Rattle.std.proofs.Common.{◌≡◌, ◌++◌, drop}
use Rattle.explain_cause.specs.Course.{events_from}
use Rattle.explain_cause.proofs.events.EventLog.put_all_step_events.Given as goal

abbrev pub invariant-loop-at : goal.invariant-loop-at
invariant-loop-at l = l.self.events.items
    ++ events_from l.program l.self.locals l.at (drop l.at l.steps)
    ≡ l.fn.self.events.items ++ events_from l.program l.fn.self.locals 0 l.steps
