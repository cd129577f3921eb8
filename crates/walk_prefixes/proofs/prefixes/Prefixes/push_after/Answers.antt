use Rattle.std.proofs.lemmas.List.{take_rest}
use Rattle.std.proofs.Common.{◌+◌, [], ◌∷◌, ◌++◌, take, drop, ◌∙◌, ap, arith, vec_capacity}
use Rattle.walk_prefixes.specs.PrefixLists.{last_of}
use Rattle.walk_prefixes.proofs.PackedPrefixes.{Holds}
use Rattle.walk_prefixes.proofs.ListFields.{more_counted, one_more, held_one_more}
use Rattle.walk_prefixes.proofs.prefixes.Prefixes.push_after.Goals as goal

pub overflow_add-self : goal.overflow_add-self
overflow_add-self c = omega (arith, more_counted c.self.inside c.self.invariant)

grown : (c : goal.After-self-1)
    → Holds (c.self.inside.count + 1) c.self.inside.front c.put_short_delta.new.bytes.items
    c.put_reserved.new.bytes.items (vec_capacity c.put_reserved.new.bytes)
    (c.args.self.now ++ (take c.args.shared (last_of c.args.self.now) ++ c.args.rest.now) ∷ [])
grown c =
    let top = c.put_reserved.new.bytes in
    let k = c.args.shared in
    one_more c.self.inside c.args.self.now c.args.rest.now _ _ _ k _ c.self.invariant
    c.self.view_is (omega arith)
    (omega (arith, c.if-can_put_short_delta.ensures.shared, c.self.inside.last.ok.0))
    (take_rest c.deref.result.now k ∙ ap (drop k) c.deref.ensures.value)
    (omega (arith, c.if-can_put_short_delta.ensures.rest)) c.put_short_delta.ensures
    (c.put_reserved.ensures.items ∙ ap (λ x. x ++ c.args.rest.now) c.truncate.ensures.items)
    (omega (arith, c.put_reserved.ensures.room, c.truncate.ensures.capacity))
    (omega (arith, top.ok.0, top.ok.1))

pub invariant_of-self : goal.invariant_of-self
invariant_of-self c =
    held_one_more c.self.inside c.args.self.now _ _ _ _ c.self.invariant c.self.view_is (grown c)

pub returns-then-can_put_short_delta : goal.returns-then-can_put_short_delta
returns-then-can_put_short_delta c = (grown c).view
