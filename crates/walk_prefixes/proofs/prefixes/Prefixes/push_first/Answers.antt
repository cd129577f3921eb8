use Rattle.std.proofs.Common.{◌≡◌, ◌∷◌, [], length, ◌∙◌, refl, arith, vec_capacity, ap}
use Rattle.walk_prefixes.proofs.PackedPrefixes.{if_ok, Holds, held_count, started_with}
use Rattle.walk_prefixes.proofs.ListFields.{with_room}
use Rattle.walk_prefixes.proofs.prefixes.Prefixes.push_first.Goals as goal

started : (c : goal.After-self-3-1) → Holds 1 (length c.args.prefix.now)
    c.extend_from_slice.new.self.items c.extend_from_slice-2.new.self.items
    (vec_capacity c.extend_from_slice-2.new.self) (c.args.prefix.now ∷ [])
started c =
    let bytes : c.extend_from_slice.new.self.items ≡ c.args.prefix.now =
    if_ok c.extend_from_slice.result _ _ _
    (c.extend_from_slice.ensures.succeeds
    (omega (
      arith,
      c.clear.ensures.len,
      c.clear.ensures.capacity,
      c.in_ok-reserve-2.ensures.ok,
      c.reserve-2.ensures.len,
    ))) c.extend_from_slice.ensures.items ∙ (rw c.clear.ensures.items refl) in
    let last : c.extend_from_slice-2.new.self.items ≡ c.args.prefix.now =
    if_ok c.extend_from_slice-2.result _ _ _
    (c.extend_from_slice-2.ensures.succeeds
    (omega (
      arith,
      c.clear-2.ensures.len,
      c.clear-2.ensures.capacity,
      c.in_ok-reserve.ensures.ok,
      c.reserve.ensures.len,
    ))) c.extend_from_slice-2.ensures.items ∙ (rw c.clear-2.ensures.items refl) in
    started_with _ _ c.args.prefix.now _ _ refl bytes last
    (let top = c.extend_from_slice-2.new.self in
    omega (arith, ap length last, top.ok.0, top.ok.1))

pub invariant_of-self-2 : goal.invariant_of-self-2
invariant_of-self-2 c = (
  (started c).within,
  (started c).packed,
  held_count 1 0 _ _ _ _ _ (started c) refl,
)

pub returns : goal.returns
returns c = (started c).view

pub invariant_of-self-in_err-reserve-2 : goal.invariant_of-self-in_err-reserve-2
invariant_of-self-in_err-reserve-2 c =
    with_room c.self.inside _ _ _ c.self.invariant (omega (arith, c.reserve.ensures.capacity))
    c.reserve-2.ensures.items c.reserve.ensures.items
