use Rattle.explain_waits.specs.inner.Settling.{AreOpenBelow}
use Rattle.explain_waits.proofs.ways.open_tests.Given as goal

abbrev pub invariant-loop-local : goal.invariant-loop-local
invariant-loop-local l = AreOpenBelow l.code l.place l.local l.are_open.items
