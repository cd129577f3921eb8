use Rattle.std.proofs.Common.{◌≡◌, ◌-◌, ◌∙◌, length, take, drop, vec_capacity, ap, arith}
use Rattle.std.proofs.lemmas.List.{take_rest}
use Rattle.walk_prefixes.proofs.PackedPrefixes.{packed_more}
use Rattle.walk_prefixes.proofs.prefixes.Prefixes.rev.Goals as goal

pub invariant_of-result : goal.invariant_of-result
invariant_of-result c =
    let i = c.self.inside in
    let D = c.deref.result.now in
    let ways : take (length D - i.front) (drop i.front D) ≡ drop i.front i.bytes.items =
    take_rest D i.front ∙ ap (drop i.front) c.deref.ensures.value in
    let first : take i.front c.deref-2.result.now ≡ take i.front i.bytes.items =
    ap (take i.front) c.deref-2.ensures.value in
    let last : c.in_ok-last.last.items ≡ i.last.items =
    c.in_ok-last.ensures.prefix ∙ c.as_slice.ensures.value in
    rw (ways, first, last) (packed_more i.count (drop i.front i.bytes.items) i.last.items
    (take i.front i.bytes.items) (vec_capacity i.last) _
    (omega (arith, c.in_ok-last.ensures.room, c.capacity.ensures)) c.self.invariant.1)
