use Rattle.std.proofs.Common.{◌≡◌, rules, arith, ℤ, pos, map, get_or, ◌<◌, length}
use Rattle.std.proofs.lemmas.List.{take_more, take_all}
use Rattle.serde_json.specs.{Data.number, Find.of_integer, View.{items_of, items_view}}
use Rattle.runner_parts.proofs.ReadLists.{items_same, as_long, item_at, integer_read}
use Rattle.runner_parts.proofs.reading.values_of.Goals as goal

pub returns-in_default-as_i64 : goal.returns-in_default-as_i64
returns-in_default-as_i64 c = λ zs fit e.
    let i = c.loop-item.item-index in
    let f = λ (z : ℤ). number (of_integer z) in
    let items : items_view c.deref-item-items.result.now ≡ items_of (map f zs) = search rules in
    let values = items_same _ _ items in
    let long = as_long f _ zs values in
    let at = item_at f _ zs i c.item-item.result (pos 0) values c.loop-item-test.true in
    let inside : i < length zs = omega (arith, long, c.loop-item-test.true) in
    let read = integer_read (get_or zs i (pos 0)) (fit i (pos 0) inside) in
    search rules

pub loop-item-preserved : goal.loop-item-preserved
loop-item-preserved c = λ zs fit e.
    let i = c.loop-item.item-index in
    let f = λ (z : ℤ). number (of_integer z) in
    let long = as_long f _ zs e in
    let at = item_at f _ zs i c.item-item.result (pos 0) e c.loop-item-test.true in
    let inside : i < length zs = omega (arith, long, c.loop-item-test.true) in
    let read = integer_read (get_or zs i (pos 0)) (fit i (pos 0) inside) in
    let more = take_more zs i (pos 0) inside in
    let before = c.loop-item.invariant zs fit e in
    let number : c.in-Some-as_i64.number ≡ get_or zs i (pos 0) = search rules in
    search rules

pub returns : goal.returns
returns c = λ zs fit e.
    let f = λ (z : ℤ). number (of_integer z) in
    let items : items_view c.deref-item-items.result.now ≡ items_of (map f zs) = search rules in
    let values = items_same _ _ items in
    let long = as_long f _ zs values in
    let read = c.loop-item.invariant zs fit values in
    let all = take_all c.loop-item.item-index zs
    (omega (arith, long, c.loop-item-test.false)) in
    search rules
