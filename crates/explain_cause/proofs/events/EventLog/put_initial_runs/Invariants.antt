use Rattle.std.proofs.Common.{◌≡◌, ◌++◌, ◌+◌, ℕ, List, length}
use Rattle.explain_run.specs.declared.step.Step.{Step}
use Rattle.explain_cause.specs.Course.{opening_from}
use Rattle.explain_cause.proofs.events.EventLog.put_initial_runs.Given as goal

abbrev pub invariant-loop-thread : goal.invariant-loop-thread
invariant-loop-thread l = (steps : List Step) (left : ℕ) →
    l.thread + left ≡ length l.program.threads →
    l.self.events.items ++ opening_from l.program steps l.self.locals l.thread left
    ≡ l.fn.self.events.items
    ++ opening_from l.program steps l.fn.self.locals 0 (length l.program.threads)
