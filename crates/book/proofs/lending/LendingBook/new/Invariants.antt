use Rattle.std.proofs.Common.{◌≡◌, [], map, replicate}
use Rattle.guest_code.specs.Program.{Program}
use Rattle.book.specs.ItemLists.{all_of}
use Rattle.book.proofs.lending.LendingBook.new.Given as goal

abbrev pub invariant-loop : goal.invariant-loop
invariant-loop l = (p : Program) → map (all_of p) l.lent.items ≡ replicate l.counter []
