use Rattle.std.proofs.Common.{◌++◌, length, map, IsPermutation}
use Rattle.std.specs.Arc.{arc_value}
use Rattle.book.specs.{ItemLists.all_of, Lending.{as_book, all_lent}}
use Rattle.book.proofs.lending.LendingBook.into_book.Given as goal

-- what is lent still and what is free are the open items
abbrev pub invariant-loop-list : goal.invariant-loop-list
invariant-loop-list l =
    IsPermutation (as_book l.fn.self).open_items
    (all_lent (map (all_of (arc_value l.program)) l.lent.items)
    ++ all_of (arc_value l.program) l.free)

abbrev pub decreases-loop-list : goal.decreases-loop-list
decreases-loop-list l = length l.lent.items
