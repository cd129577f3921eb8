use Rattle.std.proofs.Common.{map, take, All, Contains}
use Rattle.walk_cover.proofs.covering.unreached_error.Given as goal

abbrev pub invariant-loop-prefix : goal.invariant-loop-prefix
invariant-loop-prefix l =
    All (λ x. Contains (map (λ i. i.prefix) l.fn.items) x.now) (take l.prefix-index l.prefixes)
