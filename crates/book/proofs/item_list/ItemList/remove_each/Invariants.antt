use Rattle.std.proofs.Common.{◌≡◌, drop}
use Rattle.guest_code.specs.Program.{Program}
use Rattle.book.specs.{Books.remove_each, ItemLists.{all_of, list_view}}
use Rattle.book.proofs.item_list.ItemList.remove_each.Given as goal

abbrev pub invariant-loop-k : goal.invariant-loop-k
invariant-loop-k l = record {
  left : (p : Program) →
      remove_each (all_of p (list_view l.self-inside.packed l.self-inside.unpacked)) (drop l.k l.places)
      ≡ remove_each (all_of p l.fn.self) l.places;
  packed : l.self-inside.packed ≡ l.fn.self.packed;
}
