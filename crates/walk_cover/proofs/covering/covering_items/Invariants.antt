use Rattle.std.proofs.Common.{map}
use Rattle.walk_items.specs.Children.{costs}
use Rattle.walk_cover.proofs.Covered.{IsWay}
use Rattle.walk_cover.proofs.covering.covering_items.Given as goal

abbrev pub invariant-loop-item : goal.invariant-loop-item
invariant-loop-item l =
    IsWay l.mode l.fn.root.program (map (λ x. x.now) l.fn.prefixes) l.items.items l.left.items

abbrev pub decreases-loop-item : goal.decreases-loop-item
decreases-loop-item l = costs l.left.items
