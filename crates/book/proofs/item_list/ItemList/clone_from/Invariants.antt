use Rattle.std.proofs.Common.{◌≡◌, take}
use Rattle.book.proofs.item_list.ItemList.clone_from.Given as goal

abbrev pub invariant-loop-place : goal.invariant-loop-place
invariant-loop-place l = record {
  packed : l.self-inside.packed ≡ l.other-inside.packed;
  unpacked : l.self-inside.unpacked.items ≡ take l.place l.other-inside.unpacked.items;
}
