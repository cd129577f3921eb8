use Rattle.std.proofs.Common.{◌≡◌}
use Rattle.tests_walk.proofs.boards.draw.Given as goal

abbrev pub invariant-loop : goal.invariant-loop
invariant-loop l = l.seat.board ≡ l.board.id
