use Rattle.std.proofs.Common.{◌≡◌, ◌++◌, replicate}
use Rattle.replay.proofs.piece.push_steps.Given as goal

abbrev pub invariant-loop : goal.invariant-loop
invariant-loop l = l.schedule.items ≡ l.fn.schedule.items ++ replicate l.counter l.piece.thread
