use Rattle.std.proofs.lemmas.List.{take_at, append-nil, take_rest}
use Rattle.walk_prefixes.proofs.WayBytes.{length-way}
use Rattle.std.proofs.Common.{◌≡◌, ◌+◌, ◌-◌, ◌^◌, ◌<◌, ◌≤◌, false, ◌++◌, length, take, drop, vec_len, vec_capacity, refl, sym, ◌∙◌, ap, arith, append_assoc, length-append, length-take}
use Rattle.walk_prefixes.specs.inner.Packed.{way_bytes, listed}
use Rattle.walk_prefixes.proofs.PackedPrefixes.{if_ok, packed_few, listed_none, stack_short, appended, Holds, held_count, grown_after}
use Rattle.walk_prefixes.proofs.ListFields.{list_of, counted_few, stack_of, with_room, cut_short}
use Rattle.walk_prefixes.proofs.prefixes.Prefixes.append.Goals as goal

pub returns-then-other-eq0 : goal.returns-then-other-eq0
returns-then-other-eq0 c =
    let i = c.other.inside in
    rw (
      ← c.other.view_is,
      listed_none i.count (drop i.front i.bytes.items) i.last.items false c.if-other-eq0.true,
    )
    (sym (append-nil c.args.self.now))

pub returns-then-self-eq0 : goal.returns-then-self-eq0
returns-then-self-eq0 c =
    let i = c.self.inside in
    c.swap.ensures.x_after
    ∙ c.in_ok-copy.ensures
    ∙ ap (λ ps. ps ++ c.args.other.now)
    (sym (sym c.self.view_is
    ∙ listed_none i.count (drop i.front i.bytes.items) i.last.items false c.if-self-eq0.true))

grown_at : (c : goal.After-self-2-1) → Holds (c.self.inside.count + c.other.inside.count)
    c.self.inside.front c.extend_from_slice.new.self.items c.extend_from_slice-2.new.self.items
    (vec_capacity c.extend_from_slice-2.new.self)
    (listed c.self.inside.count (drop c.self.inside.front c.self.inside.bytes.items)
    c.self.inside.last.items false
    ++ listed c.other.inside.count (drop c.other.inside.front c.other.inside.bytes.items)
    c.other.inside.last.items false)
grown_at c =
    let i = c.self.inside in
    let j = c.other.inside in
    let last = i.last.items in
    let b = drop i.front i.bytes.items in
    let ways = drop j.front j.bytes.items in
    let start = take j.front j.bytes.items in
    let k = c.shared_len-shared.result in
    let same : c.as_slice.result.now ≡ last = c.as_slice.ensures.value ∙ c.reserve.ensures.items in
    let whole : c.deref-2.result.now ≡ last = c.deref-2.ensures.value ∙ c.reserve.ensures.items in
    let theirs : take j.front c.deref.result.now ≡ start =
    ap (take j.front) c.deref.ensures.value in
    let alike : take k last ≡ take k start =
    ap (take k) (sym same) ∙ c.shared_len-shared.ensures.alike ∙ ap (take k) theirs in
    let low : k ≤ length last = omega (arith, c.shared_len-shared.ensures.in_a, ap length same)
    in
    let within : k ≤ length start = omega (
      arith,
      c.shared_len-shared.ensures.in_b,
      ap length theirs,
    ) in
    let t = take (length c.deref-2.result.now - k) (drop k c.deref-2.result.now) in
    let tail : t ≡ drop k last = take_rest c.deref-2.result.now k ∙ ap (drop k) whole in
    let count : j.front ≡ length start =
    omega (arith, length-take j.front j.bytes.items, c.other.invariant.0) in
    let way = way_bytes (length start - k) t false in
    let wrote : c.put_delta.new.bytes.items ≡ i.bytes.items ++ way =
    c.in_ok-put_delta.ensures ∙ ap (λ n. i.bytes.items ++ way_bytes (n - k) t false) count in
    let D = c.deref-3.result.now in
    let read : take (length D - j.front) (drop j.front D) ≡ ways =
    take_rest D j.front ∙ ap (drop j.front) c.deref-3.ensures.value in
    let joined : c.extend_from_slice.new.self.items ≡ i.bytes.items ++ (way ++ ways) =
    c.in_default.ensures.items ∙ ((λ x. wrote x ++ read x) ∙ append_assoc i.bytes.items way ways) in
    let room : vec_capacity j.last ≤ vec_capacity c.reserve.new.self =
    omega (
      arith,
      c.in_ok-reserve.ensures.ok,
      c.reserve.ensures.len,
      c.saturating_sub.ensures,
      c.len.ensures,
    ) in
    let other = stack_of j c.other.invariant (omega arith) in
    let fits : vec_len c.clear.new.self + length c.as_slice-2.result.now ≤ vec_capacity
    c.clear.new.self =
    omega (
      arith,
      room,
      c.clear.ensures.len,
      c.clear.ensures.capacity,
      ap length c.as_slice-2.ensures.value,
      stack_short j.count ways j.last.items start (vec_capacity j.last) other,
    ) in
    let made : c.extend_from_slice-2.new.self.items ≡ j.last.items =
    if_ok c.extend_from_slice-2.result _ _ _ (c.extend_from_slice-2.ensures.succeeds fits)
    c.extend_from_slice-2.ensures.items ∙ (rw (c.clear.ensures.items, c.as_slice-2.ensures.value)
    refl) in
    let long : length start < 2 ^ 64 =
    omega (arith, count, c.other.invariant.0, j.bytes.ok.0, j.bytes.ok.1, j.bytes.small) in
    grown_after (i.count + j.count) i.front i.bytes.items (way ++ ways) _ _ _ _ c.self.invariant.0
    joined
    (λ d e. appended i.count j.count b ways last (take i.front i.bytes.items)
    j.last.items start (vec_capacity i.last) (vec_capacity j.last) (b ++ way) d c.extend_from_slice-2.new.self.items t k
    (vec_capacity c.extend_from_slice-2.new.self) (stack_of i c.self.invariant (omega arith)) other
    low within long (cut_short i k t tail) alike tail refl (e ∙ sym (append_assoc b way ways)) made
    (omega (
      arith,
      c.reserve.ensures.capacity,
      c.clear.ensures.capacity,
      c.extend_from_slice-2.ensures.capacity,
    )) (omega (
      arith,
      room,
      c.clear.ensures.capacity,
      c.extend_from_slice-2.ensures.capacity,
    )))

pub overflow_add-self : goal.overflow_add-self
overflow_add-self c =
    let i = c.self.inside in
    let j = c.other.inside in
    let k = c.shared_len-shared.result in
    let n = counted_few i c.self.invariant in
    let m = packed_few j.count (drop j.front j.bytes.items) j.last.items
    (take j.front j.bytes.items) (vec_capacity j.last) c.other.invariant.1 in
    let t = take (length c.deref-2.result.now - k) (drop k c.deref-2.result.now) in
    let wrote : c.put_delta.new.bytes.items ≡ i.bytes.items ++ way_bytes (j.front - k) t false =
    c.in_ok-put_delta.ensures in
    let D = c.deref-3.result.now in
    let more = take (length D - j.front) (drop j.front D) in
    let read : more ≡ drop j.front j.bytes.items =
    take_rest D j.front ∙ ap (drop j.front) c.deref-3.ensures.value in
    let joined : c.extend_from_slice.new.self.items ≡ c.put_delta.new.bytes.items ++ more =
    c.in_default.ensures.items in
    omega (
      arith,
      n,
      m,
      ap length wrote,
      ap length joined,
      ap length read,
      length-append i.bytes.items (way_bytes (j.front - k) t false),
      length-append c.put_delta.new.bytes.items more,
      length-way (j.front - k) t false,
      c.extend_from_slice.new.self.ok.0,
      c.extend_from_slice.new.self.small,
    )

pub invariant_of-self-2 : goal.invariant_of-self-2
invariant_of-self-2 c = (
  (grown_at c).within,
  (grown_at c).packed,
  held_count _ _ _ _ _ _ _ (grown_at c) (omega (
    arith,
    c.self.invariant.2,
    c.other.invariant.2,
    length-append (list_of c.self.inside) (list_of c.other.inside),
  )),
)

pub returns : goal.returns
returns c = (grown_at c).view ∙ (rw (← c.self.view_is, ← c.other.view_is) refl)

pub invariant_of-self-in_err-put_delta : goal.invariant_of-self-in_err-put_delta
invariant_of-self-in_err-put_delta c =
    with_room c.self.inside _ _ _ c.self.invariant (omega (arith, c.reserve.ensures.capacity))
    c.in_err-put_delta.ensures c.reserve.ensures.items

pub invariant_of-self-in-Err : goal.invariant_of-self-in-Err
invariant_of-self-in-Err c =
    let i = c.self.inside in
    let k = c.shared_len-shared.result in
    let t = take (length c.deref-2.result.now - k) (drop k c.deref-2.result.now) in
    let cut = c.truncate.ensures.items ∙ (ap (take c.len-len.result)
    (c.in-Err.ensures.items ∙ c.in_ok-put_delta.ensures)
    ∙ take_at i.bytes.items _ c.len-len.result
    (omega (arith, c.len-len.ensures, i.bytes.ok.0))) in
    with_room i _ _ _ c.self.invariant (omega (arith, c.reserve.ensures.capacity)) cut
    c.reserve.ensures.items

pub overflow_add-self-2 : goal.overflow_add-self-2
overflow_add-self-2 c =
    let i = c.self.inside in
    let j = c.other.inside in
    let k = c.shared_len-shared.result in
    let n = counted_few i c.self.invariant in
    let m = packed_few j.count (drop j.front j.bytes.items) j.last.items
    (take j.front j.bytes.items) (vec_capacity j.last) c.other.invariant.1 in
    let t = take (length c.deref-2.result.now - k) (drop k c.deref-2.result.now) in
    let wrote : c.put_delta.new.bytes.items ≡ i.bytes.items ++ way_bytes (j.front - k) t false =
    c.in_ok-put_delta.ensures in
    let D = c.deref-3.result.now in
    let more = take (length D - j.front) (drop j.front D) in
    let read : more ≡ drop j.front j.bytes.items =
    take_rest D j.front ∙ ap (drop j.front) c.deref-3.ensures.value in
    let joined : c.extend_from_slice.new.self.items ≡ c.put_delta.new.bytes.items ++ more =
    c.in_default.ensures.items in
    omega (
      arith,
      c.self.invariant.2,
      c.other.invariant.2,
      n,
      m,
      ap length wrote,
      ap length joined,
      ap length read,
      length-append i.bytes.items (way_bytes (j.front - k) t false),
      length-append c.put_delta.new.bytes.items more,
      length-way (j.front - k) t false,
      c.extend_from_slice.new.self.ok.0,
      c.extend_from_slice.new.self.small,
    )
