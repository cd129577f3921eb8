use Rattle.std.proofs.Common.{◌≡◌, take, drop, length, vec_capacity}
use Rattle.walk_prefixes.proofs.Marking.{Marks}
use Rattle.walk_prefixes.proofs.prefixes.Prefixes.mark_later.Given as goal

abbrev pub invariant-loop-left : goal.invariant-loop-left
invariant-loop-left l =
    let i = l.self-inside in
    let j = l.initial.self-inside in
    (i.front ≡ j.front) × (i.count ≡ j.count) × (i.last ≡ j.last)
    × (take j.front i.bytes.items ≡ take j.front j.bytes.items)
    × (length i.bytes.items ≡ length j.bytes.items)
    × Marks j.count l.schedule (drop j.front j.bytes.items) j.last.items
    (take j.front j.bytes.items) (vec_capacity j.last) j.removed (drop j.front i.bytes.items)
    i.removed l.left l.seeker.end l.seeker.steps l.seeker.shared l.seeker.next

abbrev pub decreases-loop-left : goal.decreases-loop-left
decreases-loop-left l = l.left
