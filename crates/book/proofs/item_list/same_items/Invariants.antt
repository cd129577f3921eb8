use Rattle.std.proofs.Common.{◌≡◌, take}
use Rattle.book.proofs.item_list.same_items.Given as goal

abbrev pub invariant-loop-place : goal.invariant-loop-place
invariant-loop-place l = take l.place l.first.items ≡ take l.place l.second.items
