use Rattle.std.proofs.Common.{◌≡◌, length}
use Rattle.std.specs.{Arc.arc_value, List.All}
use Rattle.walk_items.specs.{Items.IsItem, Walks.items_at}
use Rattle.book.specs.ItemLists.{all_of}
use Rattle.book.proofs.item_list.ItemList.unpack_from.Given as goal

abbrev pub invariant-loop-alloc : goal.invariant-loop-alloc
invariant-loop-alloc l = record {
  same : all_of (arc_value l.program) l.self ≡ all_of (arc_value l.program) l.fn.self;
  run : All IsItem (items_at (arc_value l.program) l.self.packed);
}

abbrev pub decreases-loop-alloc : goal.decreases-loop-alloc
decreases-loop-alloc l = length l.self.packed
