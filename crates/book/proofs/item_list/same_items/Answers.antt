use Rattle.std.proofs.Common.{rules, ◌≡◌, ◌∙◌, get_or, slice_get, Some, sym, arith, refl}
use Rattle.std.proofs.lemmas.List.{take_more_same}
use Rattle.walk_items.specs.Items.{ItemView}
use Rattle.book.proofs.PackedItems.{got-or}
use Rattle.book.proofs.item_list.same_items.Goals as goal

pub loop-place-preserved : goal.loop-place-preserved
loop-place-preserved c =
    let first = c.args.first.now.items in
    let second = c.args.second.now.items in
    let k = c.loop-place.place in
    let x : ItemView = c.index.result.now in
    let at : x ≡ get_or second k x = search rules in
    let found : slice_get first k ≡ Some x = c.if-not-has_item_at.ensures.0 refl in
    let there : Some (get_or first k x) ≡ Some x = sym (got-or first k x (omega arith)) ∙ found in
    let same : get_or first k x ≡ x = cc in
    take_more_same first second k x (omega arith) (omega arith) c.loop-place.invariant (same ∙ at)
