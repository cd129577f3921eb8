use Rattle.std.proofs.Common.{vec_capacity}
use Rattle.walk_prefixes.proofs.PackedPrefixes.{Stands}
use Rattle.walk_prefixes.proofs.prefixes.Rev.advance.Given as goal

abbrev pub invariant-loop-self : goal.invariant-loop-self
invariant-loop-self l =
    let i = l.self-inside in
    Stands l.fn.self i.count i.bytes.now i.last.items i.first.now (vec_capacity i.last)

abbrev pub decreases-loop-self : goal.decreases-loop-self
decreases-loop-self l = l.self-inside.count
