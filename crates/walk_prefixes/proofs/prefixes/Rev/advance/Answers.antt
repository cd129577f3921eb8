use Rattle.std.proofs.Common.{rules, ◌≡◌, true, false, sym, ◌∙◌, arith, vec_capacity}
use Rattle.walk_prefixes.specs.inner.Packed.{before}
use Rattle.walk_prefixes.proofs.PackedPrefixes.{went_well, packed_before, packed_pop, packed_more, stands_some, stands_on, stands_last}
use Rattle.walk_prefixes.proofs.prefixes.Rev.advance.Goals as goal

pub overflow_sub-self : goal.overflow_sub-self
overflow_sub-self c = stands_some _ _ _ _ _ _ c.loop-self.invariant c.requires

last_is : (c : goal.Then-not-top) → c.restore_previous.new.last.items
    ≡ before c.loop-self.self-inside.bytes.now c.loop-self.self-inside.last.items
last_is c =
    let i = c.loop-self.self-inside in
    let some = stands_some _ _ _ _ _ _ c.loop-self.invariant c.requires in
    let short = packed_before i.count i.bytes.now i.last.items i.first.now (vec_capacity i.last)
    c.loop-self.invariant.packed some in
    went_well c.restore_previous.result _ _ (c.restore_previous.ensures.succeeds short)
    c.restore_previous.ensures.done

next_is : (c : goal.Else-not-top) → c.restore_previous.new.last.items
    ≡ before c.loop-self.self-inside.bytes.now c.loop-self.self-inside.last.items
next_is c =
    let i = c.loop-self.self-inside in
    let some = stands_some _ _ _ _ _ _ c.loop-self.invariant c.requires in
    let short = packed_before i.count i.bytes.now i.last.items i.first.now (vec_capacity i.last)
    c.loop-self.invariant.packed some in
    went_well c.restore_previous.result _ _ (c.restore_previous.ensures.succeeds short)
    c.restore_previous.ensures.done

pub invariant_of-self : goal.invariant_of-self
invariant_of-self c =
    let i = c.loop-self.self-inside in
    let some = stands_some _ _ _ _ _ _ c.loop-self.invariant c.requires in
    rw (last_is c, c.last_delta-top.ensures.start)
    (packed_more _ _ _ _ (vec_capacity i.last) _ (omega (arith, c.restore_previous.ensures.room))
    (packed_pop i.count i.bytes.now i.last.items i.first.now (vec_capacity i.last)
    c.loop-self.invariant.packed some))

pub returns-then-not-top : goal.returns-then-not-top
returns-then-not-top c =
    let stays : c.last_delta-top.result.removed ≡ false = search rules in
    rw (last_is c, c.last_delta-top.ensures.start)
    (stands_last _ _ _ _ _ _ c.loop-self.invariant c.requires
    (sym c.last_delta-top.ensures.removed ∙ stays))

pub loop-self-smaller : goal.loop-self-smaller
loop-self-smaller c =
    omega (arith, stands_some _ _ _ _ _ _ c.loop-self.invariant c.requires)

pub loop-self-preserved : goal.loop-self-preserved
loop-self-preserved c =
    let i = c.loop-self.self-inside in
    let goes : c.last_delta-top.result.removed ≡ true = search rules in
    rw (next_is c, c.last_delta-top.ensures.start)
    (stands_on _ i.count i.bytes.now i.last.items i.first.now (vec_capacity i.last) _
    c.loop-self.invariant c.requires (sym c.last_delta-top.ensures.removed ∙ goes)
    (omega (arith, c.restore_previous.ensures.room)))
