use Rattle.std.proofs.Common.{◌≤◌, ◌+◌, take, drop, length}
use Rattle.std.specs.List.{All}
use Rattle.guest_code.specs.Program.{Program}
use Rattle.book.specs.{Books.{remove_each, AreOpenAt, StandInOrder}, ItemLists.all_of}
use Rattle.book.proofs.Lists.{IsBehind}
use Rattle.book.proofs.item_list.ItemList.find_in_order.Given as goal

abbrev pub invariant-loop-k : goal.invariant-loop-k
invariant-loop-k l = record {
  there : (p : Program) → AreOpenAt (all_of p l.self) l.items (take l.k l.places) l.found.items;
  behind : (p : Program) → IsBehind (all_of p l.self) (remove_each (all_of p l.self) l.found.items)
      (length l.self.packed) (length l.self.packed + l.start) l.k;
  unpacked : All (λ q. length l.self.packed ≤ q) l.found.items;
  out : l.k ≤ l.start;
  in_order : StandInOrder l.self.unpacked l.items l.places →
      StandInOrder (drop l.start l.self.unpacked) l.items (drop l.k l.places);
}
