use Rattle.book.proofs.PackedItems.{NotBetween}
use Rattle.book.proofs.item_list.position_from.Given as goal

abbrev pub invariant-loop-place : goal.invariant-loop-place
invariant-loop-place l = NotBetween l.start l.place l.items.items l.item
