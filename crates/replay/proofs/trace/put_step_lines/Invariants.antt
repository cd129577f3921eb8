use Rattle.std.proofs.Common.{◌≡◌, ◌++◌, take}
use Rattle.replay.specs.Trace.{step_lines}
use Rattle.replay.proofs.trace.put_step_lines.Given as goal

abbrev pub invariant-loop-k : goal.invariant-loop-k
invariant-loop-k l = l.text.items ≡ l.fn.text.items ++ step_lines l.program 0 (take l.k l.lines)
