use Rattle.std.proofs.Common.{◌≡◌, map, take}
use Rattle.walk_cover.proofs.covering.prefixes_of.Given as goal

abbrev pub invariant-loop-item : goal.invariant-loop-item
invariant-loop-item l =
    map (λ x. x.now) l.prefixes.items ≡ map (λ i. i.prefix) (take l.item-index l.items)
