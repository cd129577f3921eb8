use Rattle.std.proofs.Common.{rules, ◌≡◌, ◌+◌, ◌≤◌, refl, ap, ◌∙◌, arith, length, false, inl, vec_len, vec_capacity}
use Rattle.walk_prefixes.{specs.inner.Packed.listed, proofs.ListFields.with_room}
use Rattle.walk_prefixes.proofs.PackedPrefixes.{if_ok, listed_none}
use Rattle.walk_prefixes.proofs.prefixes.Prefixes.copy_from.Goals as goal

pub invariant_of-self : goal.invariant_of-self
invariant_of-self c = (
  omega arith,
  inl refl,
  omega (arith, ap length (listed_none 0 c.extend_from_slice.new.self.items c.self.inside.last.items false refl)),
)

pub invariant_of-self-2 : goal.invariant_of-self-2
invariant_of-self-2 c =
    let j = c.other.inside in
    let bytes : c.extend_from_slice.new.self.items ≡ j.bytes.items =
    c.in_ok-extend_from_slice.ensures.items
    ∙ (rw (c.clear.ensures.items, c.as_slice.ensures.value) refl) in
    let fits : vec_len c.reserve.new.self + length c.as_slice-2.result.now ≤ vec_capacity
    c.reserve.new.self =
    omega (
      arith,
      c.in_ok-reserve.ensures.ok,
      c.reserve.ensures.len,
      c.clear-2.ensures.len,
      c.capacity.ensures,
      ap length c.as_slice-2.ensures.value,
      j.last.ok.0,
      j.last.ok.1,
    ) in
    let last : c.extend_from_slice-2.new.self.items ≡ j.last.items =
    if_ok c.extend_from_slice-2.result _ _ _ (c.extend_from_slice-2.ensures.succeeds fits)
    c.extend_from_slice-2.ensures.items
    ∙ (rw (c.reserve.ensures.items, c.clear-2.ensures.items, c.as_slice-2.ensures.value) refl) in
    with_room j _ _ _ c.other.invariant
    (omega (
      arith,
      c.in_ok-reserve.ensures.ok,
      c.reserve.ensures.len,
      c.clear-2.ensures.len,
      c.capacity.ensures,
      c.extend_from_slice-2.ensures.capacity,
    )) bytes last

pub returns-in_err-extend_from_slice : goal.returns-in_err-extend_from_slice
unfolding listed
returns-in_err-extend_from_slice c = search rules

pub returns-in_err-reserve : goal.returns-in_err-reserve
unfolding listed
returns-in_err-reserve c = search rules

pub invariant_of-self-in_err-reserve : goal.invariant_of-self-in_err-reserve
invariant_of-self-in_err-reserve c = (
  omega arith,
  inl refl,
  omega (
    arith,
    ap length (listed_none 0 c.extend_from_slice.new.self.items c.reserve.new.self.items false refl),
  ),
)
