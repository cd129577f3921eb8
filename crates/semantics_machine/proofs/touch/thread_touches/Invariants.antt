use Rattle.std.proofs.Common.{◌≡◌, map, take}
use Rattle.semantics_machine.specs.Touches.{touches_at}
use Rattle.semantics_machine.proofs.touch.thread_touches.Given as goal

abbrev pub invariant-loop-k : goal.invariant-loop-k
invariant-loop-k l = l.places.items ≡ map touches_at (take l.k l.code)
