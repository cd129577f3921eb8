use Rattle.std.proofs.Common.{◌≡◌, length, take}
use Rattle.walk_prefixes.proofs.prefixes.Prefixes.truncate.Given as goal

abbrev pub invariant-loop-self : goal.invariant-loop-self
invariant-loop-self l = record { first : take l.length l.self ≡ take l.length l.fn.self }

abbrev pub decreases-loop-self : goal.decreases-loop-self
decreases-loop-self l = length l.self
