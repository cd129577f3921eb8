use Rattle.std.specs.Prelude.{All}
use Rattle.semantics_schedules.specs.Execution.{IsExecutionOf}
use Rattle.replay.{specs.Trace.IsValidLine, proofs.LinesOfSteps.IsToldUpTo}
use Rattle.replay.proofs.run.replay.Given as goal

abbrev pub invariant-loop-at : goal.invariant-loop-at
invariant-loop-at l = record {
  of : IsExecutionOf l.program l.execution;
  told : IsToldUpTo l.program l.schedule l.at l.execution l.lines.items;
  valid : All (IsValidLine l.program) l.lines.items;
}
