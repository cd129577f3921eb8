use Rattle.std.proofs.lemmas.List.{take_rest}
use Rattle.std.proofs.Common.{◌≡◌, ◌+◌, ◌≤◌, [], ◌∷◌, ◌++◌, length, take, drop, min, vec_len, vec_capacity, ◌∙◌, ap, arith}
use Rattle.walk_prefixes.specs.PrefixLists.{last_of}
use Rattle.walk_prefixes.proofs.PackedPrefixes.{went_well, Holds, after_none, take_within}
use Rattle.walk_prefixes.proofs.ListFields.{none_in, last_in, more_counted, with_room, one_more, held_one_more}
use Rattle.walk_prefixes.proofs.prefixes.Prefixes.push_after_slow.Goals as goal

pub push_first-requires : goal.push_first-requires
push_first-requires c = none_in c.self.inside c.args.self.now c.self.view_is c.if-self-eq0.true

pub returns-then-self-eq0 : goal.returns-then-self-eq0
returns-then-self-eq0 c =
    let none = none_in c.self.inside c.args.self.now c.self.view_is c.if-self-eq0.true in
    rw (after_none c.args.self.now c.args.rest.now c.args.shared none, none) c.push_first.ensures

pub overflow_add-self : goal.overflow_add-self
overflow_add-self c = omega (arith, more_counted c.self.inside c.self.invariant)

-- the last prefix after the push
made : (c : goal.After-self-1)
    → c.put_bytes.new.bytes.items ≡ take c.min-shared.result c.self.inside.last.items
    ++ c.args.rest.now
made c =
    let k = c.min-shared.result in
    let last = c.self.inside.last.items in
    let cut : c.truncate.new.self.items ≡ take k last
    = c.truncate.ensures.items ∙ ap (take k) c.reserve.ensures.items in
    let fits : vec_len c.truncate.new.self + length c.args.rest.now ≤ vec_capacity
    c.truncate.new.self
    = omega (
      arith,
      c.in_ok-reserve.ensures.ok,
      c.reserve.ensures.len,
      c.truncate.ensures.capacity,
      c.truncate.ensures.len,
    ) in
    went_well c.put_bytes.result _ _ (c.put_bytes.ensures.succeeds fits) c.put_bytes.ensures.items
    ∙ ap (λ x. x ++ c.args.rest.now) cut

grown : (c : goal.After-self-1)
    → Holds (c.self.inside.count + 1) c.self.inside.front c.put_delta.new.bytes.items
    c.put_bytes.new.bytes.items (vec_capacity c.put_bytes.new.bytes)
    (c.args.self.now
    ++ (take c.min-shared.result (last_of c.args.self.now) ++ c.args.rest.now) ∷ [])
grown c =
    let top = c.put_bytes.new.bytes in
    let k = c.min-shared.result in
    one_more c.self.inside c.args.self.now c.args.rest.now _ _ _ k _ c.self.invariant
    c.self.view_is (omega arith)
    (omega (arith, c.min-shared.ensures, c.len.ensures, c.self.inside.last.ok.0))
    (take_rest c.deref.result.now k
    ∙ ap (drop k) (c.deref.ensures.value ∙ c.reserve.ensures.items))
    (omega (arith, c.in_ok-reserve.ensures.ok, c.reserve.new.self.small)) c.in_ok-put_delta.ensures
    (made c)
    (omega (
      arith,
      c.put_bytes.ensures.room,
      c.truncate.ensures.capacity,
      c.reserve.ensures.capacity,
    )) (omega (arith, top.ok.0, top.ok.1))

pub invariant_of-self-2 : goal.invariant_of-self-2
invariant_of-self-2 c =
    held_one_more c.self.inside c.args.self.now _ _ _ _ c.self.invariant c.self.view_is (grown c)

pub invariant_of-self-in_err-put_delta : goal.invariant_of-self-in_err-put_delta
invariant_of-self-in_err-put_delta c =
    with_room c.self.inside _ _ _ c.self.invariant (omega (arith, c.reserve.ensures.capacity))
    c.in_err-put_delta.ensures c.reserve.ensures.items

pub returns : goal.returns
returns c =
    let last = last_of c.args.self.now in
    let is_last = last_in c.self.inside c.args.self.now c.self.view_is (omega arith) in
    let count : c.min-shared.result ≡ min c.args.shared (length last)
    = omega (
      arith,
      c.min-shared.ensures,
      c.len.ensures,
      c.self.inside.last.ok.0,
      ap length is_last,
    ) in
    let same : take c.min-shared.result last ≡ take c.args.shared last
    = ap (λ k. take k last) count ∙ take_within c.args.shared last in
    (grown c).view ∙ ap (λ w. c.args.self.now ++ (w ++ c.args.rest.now) ∷ []) same
