use Rattle.std.proofs.Common.{◌≡◌, true, false, sym, ◌∙◌}
use Rattle.walk_cover.proofs.Steps.{further_more, complete_more}
use Rattle.walk_cover.proofs.children.next_layer.Goals.{then-is_last, else-is_last}
use Rattle.walk_cover.proofs.children.next_layer.Goals as goal

pub loop-item-preserved : goal.loop-item-preserved
loop-item-preserved c = record {
  items = further_more c.args.mode c.args.items.now c.loop-item.item-index c.item-item.result
      c.loop-item.longer.items _ c.loop-item-test.true c.item-item.is c.loop-item.invariant.items
      c.in_ok-is_complete.ensures.items;
  last = elim c.if-is_last.branch [
    | then-is_last w ↦ λ on. complete_more c.args.items.now c.loop-item.item-index
        c.item-item.result c.loop-item-test.true c.item-item.is
        (c.loop-item.invariant.last w.if-is_last.true)
        (sym c.in_ok-is_complete.ensures.complete ∙ (sym w.is_last-is ∙ on))
    | else-is_last w ↦ λ on.
        let e : true ≡ false = sym on ∙ (w.is_last-is ∙ w.if-is_last.false) in cc
  ];
}
