use Rattle.std.proofs.Common.{◌≡◌, false, take, All}
use Rattle.semantics_schedules.specs.Schedules.{begins_with}
use Rattle.walk_cover.proofs.covering.nested_or_unused.Given as goal

abbrev pub invariant-loop-item : goal.invariant-loop-item
invariant-loop-item l =
    All (λ i. begins_with i.prefix l.fn.prefix ≡ false) (take l.item-index l.items)
