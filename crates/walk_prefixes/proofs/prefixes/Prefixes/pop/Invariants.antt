use Rattle.std.proofs.Common.{◌≤◌, take, drop, length, vec_capacity}
use Rattle.walk_prefixes.{specs.inner.Packed.IsCounted, proofs.PackedPrefixes.Stands}
use Rattle.walk_prefixes.proofs.prefixes.Prefixes.pop.Given as goal

abbrev pub invariant-loop-self : goal.invariant-loop-self
invariant-loop-self l =
    let i = l.self-inside in
    let b = drop i.front i.bytes.items in
    (i.front ≤ length i.bytes.items)
    × Stands l.fn.self i.count b i.last.items (take i.front i.bytes.items) (vec_capacity i.last)
    × IsCounted i.count i.removed b i.last.items

abbrev pub decreases-loop-self : goal.decreases-loop-self
decreases-loop-self l = l.self-inside.count
