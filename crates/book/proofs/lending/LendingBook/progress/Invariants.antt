use Rattle.std.proofs.Common.{◌≡◌, ◌++◌, length, take}
use Rattle.walk_summary.specs.Summaries.{cut}
use Rattle.book.specs.Lending.{all_lent}
use Rattle.book.proofs.lending.LendingBook.progress.Given as goal

abbrev pub invariant-loop-list : goal.invariant-loop-list
invariant-loop-list l =
    l.open_items ≡ cut (length (all_lent (take l.list-index l.fn.self.lent) ++ l.fn.self.free))
