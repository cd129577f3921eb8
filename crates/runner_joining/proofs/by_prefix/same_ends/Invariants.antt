use Rattle.std.proofs.Common.{◌≡◌, take}
use Rattle.runner_joining.proofs.by_prefix.same_ends.Given as goal

abbrev pub invariant-loop-at : goal.invariant-loop-at
invariant-loop-at l = take l.at l.first ≡ take l.at l.second
