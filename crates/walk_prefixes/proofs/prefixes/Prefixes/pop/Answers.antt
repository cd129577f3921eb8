use Rattle.std.proofs.Common.{rules, ◌≡◌, ◌-◌, true, false, cond, take, drop, refl, sym, ◌∙◌, ap, arith, vec_capacity}
use Rattle.std.proofs.lemmas.List.{take_rest}
use Rattle.walk_prefixes.{specs.inner.Packed.removed_of, proofs.ListFields.{came, gone_of}}
use Rattle.walk_prefixes.proofs.PackedPrefixes.{went_well, packed_before, packed_pop, packed_more, CameOff, stands_some, stands_on, stands_last, counts_back}
use Rattle.walk_prefixes.proofs.prefixes.Prefixes.pop.Goals as goal

off_last : (c : goal.Then-not-top) → CameOff c.loop-self.self-inside.front c.loop-self.self-inside.bytes.items
    c.loop-self.self-inside.last.items c.truncate.new.self.items c.restore_previous.new.last.items
off_last c =
    let i = c.loop-self.self-inside in
    let D = c.deref.result.now in
    let some = stands_some _ _ _ _ _ _ c.loop-self.invariant.1 c.requires in
    let ways = take_rest D i.front ∙ ap (drop i.front) c.deref.ensures.value in
    let short = packed_before i.count (drop i.front i.bytes.items) i.last.items
    (take i.front i.bytes.items) (vec_capacity i.last) c.loop-self.invariant.1.packed some in
    came i D c.truncate.new.self.items c.restore_previous.new.last.items
    c.last_delta-top.result.start c.last_delta-top.result.end c.loop-self.invariant.0
    c.deref.ensures.value c.last_delta-top.ensures.start c.last_delta-top.ensures.ordered
    c.last_delta-top.ensures.within c.truncate.ensures.items
    (went_well c.restore_previous.result _ _ (c.restore_previous.ensures.succeeds (rw ways short))
    c.restore_previous.ensures.done)

off : (c : goal.After-self-in-loop-self-1) → CameOff c.loop-self.self-inside.front c.loop-self.self-inside.bytes.items
    c.loop-self.self-inside.last.items c.truncate.new.self.items c.restore_previous.new.last.items
off c =
    let i = c.loop-self.self-inside in
    let D = c.deref.result.now in
    let some = stands_some _ _ _ _ _ _ c.loop-self.invariant.1 c.requires in
    let ways = take_rest D i.front ∙ ap (drop i.front) c.deref.ensures.value in
    let short = packed_before i.count (drop i.front i.bytes.items) i.last.items
    (take i.front i.bytes.items) (vec_capacity i.last) c.loop-self.invariant.1.packed some in
    came i D c.truncate.new.self.items c.restore_previous.new.last.items
    c.last_delta-top.result.start c.last_delta-top.result.end c.loop-self.invariant.0
    c.deref.ensures.value c.last_delta-top.ensures.start c.last_delta-top.ensures.ordered
    c.last_delta-top.ensures.within c.truncate.ensures.items
    (went_well c.restore_previous.result _ _ (c.restore_previous.ensures.succeeds (rw ways short))
    c.restore_previous.ensures.done)

pub invariant_of-self : goal.invariant_of-self
invariant_of-self c =
    let i = c.loop-self.self-inside in
    let o = off_last c in
    let st = c.loop-self.invariant.1 in
    let some = stands_some _ _ _ _ _ _ st c.requires in
    let b = drop i.front i.bytes.items in
    let stays : c.last_delta-top.result.removed ≡ false = search rules in
    let gone : removed_of b ≡ false =
    gone_of i c.deref.result.now _ c.deref.ensures.value c.last_delta-top.ensures.removed ∙ stays in (
      o.within,
      rw (o.below, o.same, o.back) (packed_more _ _ _ _ (vec_capacity i.last) _
          (omega (arith, c.restore_previous.ensures.room))
          (packed_pop i.count b i.last.items (take i.front i.bytes.items) (vec_capacity i.last)
          st.packed some)),
      rw (o.below, o.back) (counts_back i.count i.removed b i.last.items (take i.front i.bytes.items)
          (vec_capacity i.last) st.packed some c.loop-self.invariant.2 i.removed
          (ap (λ g. cond g (i.removed - 1) i.removed) (sym gone))).1,
    )

pub returns-then-not-top : goal.returns-then-not-top
returns-then-not-top c =
    let i = c.loop-self.self-inside in
    let o = off_last c in
    let stays : c.last_delta-top.result.removed ≡ false = search rules in
    let gone = gone_of i c.deref.result.now _ c.deref.ensures.value c.last_delta-top.ensures.removed
    ∙ stays in
    rw (o.below, o.back) (stands_last _ _ _ _ _ _ c.loop-self.invariant.1 c.requires gone)

pub overflow_sub-self-in-loop-self : goal.overflow_sub-self-in-loop-self
overflow_sub-self-in-loop-self c =
    let i = c.loop-self.self-inside in
    let st = c.loop-self.invariant.1 in
    let some = stands_some _ _ _ _ _ _ st c.requires in
    let b = drop i.front i.bytes.items in
    let goes : c.last_delta-top.result.removed ≡ true = search rules in
    let gone : removed_of b ≡ true =
    gone_of i c.deref.result.now _ c.deref.ensures.value c.last_delta-top.ensures.removed ∙ goes in
    (counts_back i.count i.removed b i.last.items (take i.front i.bytes.items)
    (vec_capacity i.last) st.packed some c.loop-self.invariant.2 _ refl).0 gone

pub loop-self-preserved : goal.loop-self-preserved
loop-self-preserved c =
    let i = c.loop-self.self-inside in
    let o = off c in
    let st = c.loop-self.invariant.1 in
    let some = stands_some _ _ _ _ _ _ st c.requires in
    let b = drop i.front i.bytes.items in
    let goes : c.last_delta-top.result.removed ≡ true = search rules in
    let gone : removed_of b ≡ true =
    gone_of i c.deref.result.now _ c.deref.ensures.value c.last_delta-top.ensures.removed ∙ goes in (
      o.within,
      rw (o.below, o.same, o.back) (stands_on _ i.count b i.last.items (take i.front i.bytes.items)
          (vec_capacity i.last) _ st c.requires gone (omega (arith, c.restore_previous.ensures.room))),
      rw (o.below, o.back) (counts_back i.count i.removed b i.last.items (take i.front i.bytes.items)
          (vec_capacity i.last) st.packed some c.loop-self.invariant.2 _
          (ap (λ g. cond g (i.removed - 1) i.removed) (sym gone))).1,
    )
