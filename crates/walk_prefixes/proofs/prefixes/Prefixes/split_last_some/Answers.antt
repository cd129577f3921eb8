use Rattle.std.proofs.Common.{rules, ◌≡◌, ℕ, ◌+◌, ◌-◌, ◌<◌, ◌≤◌, false, List, ◌++◌, length, take, drop, refl, ◌∙◌, ap, subst, arith, length-take, length-drop, inl, vec_len, vec_capacity}
use Rattle.std.proofs.lemmas.List.{take_rest}
use Rattle.walk_prefixes.specs.inner.Packed.{IsStack, AreWaysOn, listed}
use Rattle.walk_prefixes.proofs.PackedPrefixes.{if_ok, listed_none, Holds, held_more}
use Rattle.walk_prefixes.proofs.ListFields.{stack_of, with_room, count_in}
use Rattle.walk_prefixes.proofs.GoingBack.{SplitAt, split_at, AllStay, all_stay, one_left, kept, moved}
use Rattle.walk_prefixes.proofs.prefixes.Prefixes.split_last_some.Goals as goal
use Rattle.walk_prefixes.proofs.prefixes.Prefixes.split_last_some.Goals.{After-deref}

-- fewer are moved than there are
fewer : (c : After-deref) → c.args.count < c.self.inside.count
fewer c =
    let i = c.self.inside in
    omega (arith, c.requires.few, count_in i c.args.self.now c.self.invariant c.self.view_is)

-- the ways of the list
abbrev ways_of : After-deref → List ℕ
ways_of c = take (length c.deref.result.now - c.self.inside.front)
    (drop c.self.inside.front c.deref.result.now)

read : (c : After-deref) → ways_of c ≡ drop c.self.inside.front c.self.inside.bytes.items
read c =
    take_rest c.deref.result.now c.self.inside.front
    ∙ ap (drop c.self.inside.front) c.deref.ensures.value

abbrev stack : (c : After-deref) → IsStack c.self.inside.count (ways_of c) c.self.inside.last.items
    (take c.self.inside.front c.self.inside.bytes.items) (vec_capacity c.self.inside.last)
stack c =
    let s = stack_of c.self.inside c.self.invariant (omega (arith, fewer c)) in record {
      ways = s.ways;
      counted = s.counted;
      spelt = read c ∙ s.spelt;
      leads = s.leads;
      sound = s.sound;
    }

abbrev given : (c : After-deref) → AreWaysOn (ways_of c) (c.args.count - 1) c.self.inside.last.items
    (vec_capacity c.self.inside.last)
given c = record {
  ways = (stack c).ways;
  more = omega (arith, fewer c, (stack c).counted, c.requires.some);
  spelt = (stack c).spelt;
  sound = (stack c).sound;
}

-- the last prefix was saved
saved : (c : After-deref) → c.extend_from_slice.new.self.items ≡ c.self.inside.last.items
saved c =
    let i = c.self.inside in
    let fits : vec_len c.reserve.new.self + length c.as_slice.result.now ≤ vec_capacity
    c.reserve.new.self =
    omega (
      arith,
      c.in_ok-reserve.ensures.ok,
      c.reserve.ensures.len,
      c.clear.ensures.len,
      c.capacity.ensures,
      ap length c.as_slice.ensures.value,
      i.last.ok.0,
      i.last.ok.1,
    ) in
    if_ok c.extend_from_slice.result _ _ _ (c.extend_from_slice.ensures.succeeds fits)
    c.extend_from_slice.ensures.items
    ∙ (rw (c.reserve.ensures.items, c.clear.ensures.items, c.as_slice.ensures.value) refl)

pub go_back-at-requires : goal.go_back-at-requires
go_back-at-requires c = given (goal.at.go_back-at-requires c).After-deref

pub slice_bounds-set_bytes-count : goal.slice_bounds-set_bytes-count
slice_bounds-set_bytes-count c =
    let d = (goal.at.slice_bounds-set_bytes-count c).After-deref in
    (c.go_back-at.ensures.back (given d)).within

pub slice_bounds-go_back-end : goal.slice_bounds-go_back-end
slice_bounds-go_back-end c =
    let d = (goal.at.slice_bounds-go_back-end c).After-deref in
    omega (arith, length-take c.go_back-at.result (ways_of d), (c.go_back-at.ensures.back (given d)).within)

pub invariant_of-self : goal.invariant_of-self
invariant_of-self c =
    let d = (goal.at.invariant_of-self c).After-deref in
    let i = c.self.inside in
    let own : c.extend_from_slice.new.self.items ≡ i.last.items = saved d in
    let fits : vec_len c.clear-in-Err.new.self + length c.as_slice-in-Err.result.now ≤ vec_capacity
    c.clear-in-Err.new.self =
    omega (
      arith,
      c.clear-in-Err.ensures.len,
      c.clear-in-Err.ensures.capacity,
      c.go_back-at.ensures.room,
      ap length c.as_slice-in-Err.ensures.value,
      ap length own,
      i.last.ok.0,
      i.last.ok.1,
    ) in
    with_room i _ _ _ c.self.invariant
    (omega (
      arith,
      c.clear-in-Err.ensures.capacity,
      c.go_back-at.ensures.room,
      c.extend_from_slice-in-Err.ensures.capacity,
    )) refl
    (if_ok c.extend_from_slice-in-Err.result _ _ _ (c.extend_from_slice-in-Err.ensures.succeeds fits)
    c.extend_from_slice-in-Err.ensures.items
    ∙ (rw (c.clear-in-Err.ensures.items, c.as_slice-in-Err.ensures.value) own))

pub go_back-end-requires : goal.go_back-end-requires
go_back-end-requires c =
    let d = (goal.at.go_back-end-requires c).After-deref in
    one_left (stack d).ways (ways_of d) _ _ _ (c.args.count - 1) c.go_back-at.result _
    (c.go_back-at.ensures.back (given d)) (omega (arith, fewer d, (stack d).counted, c.requires.some))
    c.go_back-at.ensures.room

pub overflow_sub-self : goal.overflow_sub-self
overflow_sub-self c = omega (arith, fewer (goal.at.overflow_sub-self c).After-deref)

-- the two lists
split : (c : goal.After-self-1) → SplitAt (drop c.self.inside.front c.self.inside.bytes.items)
    c.self.inside.last.items (take c.self.inside.front c.self.inside.bytes.items)
    (vec_capacity c.self.inside.last) (vec_capacity c.go_back-at.new.last) c.self.inside.count
    c.args.count c.go_back-at.result c.go_back-at.new.last.items c.go_back-end.result
    c.go_back-end.new.last.items
split c =
    let d = (goal.at.returns-clause-kept c).After-deref in
    let b = c.go_back-at.ensures.back (given d) in
    let left = one_left (stack d).ways (ways_of d) _ _ _ (c.args.count - 1) c.go_back-at.result _
    b (omega (arith, fewer d, (stack d).counted, c.requires.some)) c.go_back-at.ensures.room in
    subst (λ bytes. SplitAt bytes c.self.inside.last.items
    (take c.self.inside.front c.self.inside.bytes.items)
    (vec_capacity c.self.inside.last) (vec_capacity c.go_back-at.new.last) c.self.inside.count
    c.args.count c.go_back-at.result c.go_back-at.new.last.items c.go_back-end.result
    c.go_back-end.new.last.items) (read d)
    (split_at (ways_of d) _ _ _ _ c.self.inside.count c.args.count _ _ _ _ (stack d)
    c.requires.some (fewer d) b (c.go_back-end.ensures.back left))

stay : (c : goal.After-self-1) → AllStay c.self.inside.count c.args.count
    (listed (c.self.inside.count - c.args.count)
    (take c.go_back-end.result (drop c.self.inside.front c.self.inside.bytes.items))
    c.go_back-end.new.last.items false)
    (listed c.args.count
    (drop c.go_back-at.result (drop c.self.inside.front c.self.inside.bytes.items))
    c.self.inside.last.items false)
    (listed c.self.inside.count (drop c.self.inside.front c.self.inside.bytes.items)
    c.self.inside.last.items false)
stay c =
    let d = (goal.at.returns-clause-kept c).After-deref in
    all_stay _ _ _ _ _ c.self.inside.count c.args.count _ _ _ _ (split c) c.requires.some (fewer d)
    (omega (arith, c.self.invariant.2, c.if-self-gt0.false))

lower : (c : goal.After-self-1) → Holds (c.self.inside.count - c.args.count) c.self.inside.front
    c.truncate.new.self.items c.go_back-end.new.last.items (vec_capacity c.go_back-end.new.last)
    (take (length c.args.self.now - c.args.count) c.args.self.now)
lower c =
    let i = c.self.inside in
    rw (← c.self.view_is) (held_more _ _ _ _ _ _ _ c.go_back-end.ensures.room
    (kept i.count i.front i.bytes.items i.last.items _ _ c.args.count _ _ _ _
    c.truncate.new.self.items c.self.invariant.0 (split c) (stay c) c.truncate.ensures.items))

upper : (c : goal.After-self-1) → Holds c.args.count c.len-other-inside.result
    c.set_bytes.new.bytes.items c.extend_from_slice.new.self.items
    (vec_capacity c.extend_from_slice.new.self)
    (drop (length c.args.self.now - c.args.count) c.args.self.now)
upper c =
    let d = (goal.at.returns-clause-kept c).After-deref in
    let i = c.self.inside in
    let W = ways_of d in
    let at = c.go_back-at.result in
    let wrote : c.set_bytes.new.bytes.items ≡ c.go_back-at.new.last.items
    ++ drop at (drop i.front i.bytes.items) =
    c.in_default.ensures
    ∙ (λ k. c.as_slice-2.ensures.value k ++ (take_rest W at ∙ ap (drop at) (read d)) k) in
    let long : c.len-other-inside.result ≡ length c.go_back-at.new.last.items =
    omega (arith, c.len-other-inside.ensures, c.go_back-at.new.last.ok.0) in
    rw (← c.self.view_is, long) (moved i.count _ _ _ _ _ _ c.args.count _ _ _ _
    c.set_bytes.new.bytes.items c.extend_from_slice.new.self.items (split c) (stay c) wrote (saved d)
    (omega (
      arith,
      c.in_ok-reserve.ensures.ok,
      c.reserve.ensures.len,
      c.clear.ensures.len,
      c.capacity.ensures,
      c.extend_from_slice.ensures.capacity,
    )))

pub invariant_of-self-2 : goal.invariant_of-self-2
invariant_of-self-2 c = (
  (lower c).within,
  (lower c).packed,
  omega (
    arith,
    (stay c).kept,
    ap length (lower c).view,
    ap length c.self.view_is,
    c.if-self-gt0.false,
    length-take (length c.args.self.now - c.args.count) c.args.self.now,
    c.self.invariant.2,
    c.requires.few,
  ),
)

pub invariant_of-other-2 : goal.invariant_of-other-2
invariant_of-other-2 c = (
  (upper c).within,
  (upper c).packed,
  omega (
    arith,
    ap length (upper c).view,
    ap length c.self.view_is,
    c.if-self-gt0.false,
    length-drop (length c.args.self.now - c.args.count) c.args.self.now,
    c.self.invariant.2,
    c.requires.few,
  ),
)

pub returns-clause-kept : goal.returns-clause-kept
returns-clause-kept c = (lower c).view

pub returns-clause-moved : goal.returns-clause-moved
returns-clause-moved c = (upper c).view

pub slice_bounds-set_bytes-start : goal.slice_bounds-set_bytes-start
slice_bounds-set_bytes-start c =
    let d = (goal.at.slice_bounds-set_bytes-start c).After-deref in
    (c.go_back-at.ensures.back (given d)).within

pub overflow_add-self-inside : goal.overflow_add-self-inside
overflow_add-self-inside c =
    let d = (goal.at.overflow_add-self-inside c).After-deref in
    let i = c.self.inside in
    let b = c.go_back-at.ensures.back (given d) in
    let left = one_left (stack d).ways (ways_of d) _ _ _ (c.args.count - 1) c.go_back-at.result _
    b (omega (arith, fewer d, (stack d).counted, c.requires.some)) c.go_back-at.ensures.room in
    omega (
      arith,
      (c.go_back-end.ensures.back left).within,
      length-take c.go_back-at.result (ways_of d),
      b.within,
      ap length (read d),
      length-drop i.front i.bytes.items,
      c.self.invariant.0,
      i.bytes.ok.0,
      i.bytes.ok.1,
      i.bytes.small,
    )

pub returns-in_err-reserve-clause-moved : goal.returns-in_err-reserve-clause-moved
unfolding listed
returns-in_err-reserve-clause-moved c = search rules

pub returns-in-Err-clause-moved : goal.returns-in-Err-clause-moved
unfolding listed
returns-in-Err-clause-moved c = refl

pub invariant_of-other : goal.invariant_of-other
invariant_of-other c = (
  omega arith,
  inl refl,
  omega (arith, ap length (listed_none 0 c.other.inside.bytes.items c.clear.new.self.items false refl)),
)

pub returns-then-self-gt0-clause-moved : goal.returns-then-self-gt0-clause-moved
unfolding listed
returns-then-self-gt0-clause-moved c = refl

pub invariant_of-other-in_err-reserve : goal.invariant_of-other-in_err-reserve
invariant_of-other-in_err-reserve c = (
  omega arith,
  inl refl,
  omega (arith, ap length (listed_none 0 c.other.inside.bytes.items c.reserve.new.self.items false refl)),
)

pub invariant_of-other-in-Err : goal.invariant_of-other-in-Err
invariant_of-other-in-Err c = (
  omega arith,
  inl refl,
  omega (
    arith,
    ap length (listed_none 0 c.set_bytes.new.bytes.items c.extend_from_slice.new.self.items false
        refl),
  ),
)
