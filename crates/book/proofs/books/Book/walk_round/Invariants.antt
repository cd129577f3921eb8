use Rattle.std.proofs.Common.{◌≡◌, ◌≤◌, ◌+◌, ◌-◌, ◌*◌, ◌^◌}
use Rattle.book.proofs.Rounds.{IsFoundFrom}
use Rattle.book.proofs.books.Book.walk_round.Given as goal

abbrev pub invariant-loop-place : goal.invariant-loop-place
invariant-loop-place l = record {
  walker : l.walker ≡ l.fn.walker;
  lists : l.found.lists ≡ l.fn.self.lists;
  tried : l.found.part.tried + l.first * 2 ^ 32 ≤ l.place * 2 ^ 32;
  walked : IsFoundFrom l.fn.self l.first (l.place - l.first) l.quota l.found;
}
