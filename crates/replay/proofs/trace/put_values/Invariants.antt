use Rattle.std.proofs.Common.{◌≡◌, ◌++◌, take}
use Rattle.replay.specs.Trace.{values_text}
use Rattle.replay.proofs.trace.put_values.Given as goal

abbrev pub invariant-loop-x : goal.invariant-loop-x
invariant-loop-x l = l.text.items ≡ l.fn.text.items ++ values_text l.program 0 (take l.x l.values)
