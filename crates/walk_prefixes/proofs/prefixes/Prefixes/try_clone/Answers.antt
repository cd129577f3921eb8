use Rattle.std.proofs.Common.{◌∙◌, arith}
use Rattle.walk_prefixes.proofs.ListFields.{with_room}
use Rattle.walk_prefixes.proofs.prefixes.Prefixes.try_clone.Goals as goal

pub invariant_of-result : goal.invariant_of-result
invariant_of-result c =
    with_room c.self.inside _ _ _ c.self.invariant
    (omega (arith, c.in_ok-last.ensures.room, c.capacity.ensures))
    (c.in_ok-bytes.ensures.items_if_clones_equal (λ x y e. e) ∙ c.as_slice.ensures.value)
    (c.in_ok-last.ensures.prefix ∙ c.as_slice-2.ensures.value)
