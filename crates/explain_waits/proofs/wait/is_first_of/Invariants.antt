use Rattle.std.proofs.Common.{◌≡◌, true}
use Rattle.explain_waits.specs.Waiting.{has_none_below}
use Rattle.explain_waits.proofs.wait.is_first_of.Given as goal

abbrev pub invariant-loop-u : goal.invariant-loop-u
invariant-loop-u l = has_none_below l.set l.u ≡ true
