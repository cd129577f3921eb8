use Rattle.std.proofs.Common.{◌≡◌, ◌+◌, length, vec_len}
use Rattle.std.specs.List.{All}
use Rattle.runner_workers.specs.inner.Rounds.{IsOn}
use Rattle.runner_workers.proofs.stretch.assign_seats.Given as goal

abbrev pub invariant-loop-seat : goal.invariant-loop-seat
invariant-loop-seat l = let rest = l.seat-iterator.rest.items in record {
  left : All (λ s. s.board ≡ l.board.id) rest;
  workers : All (λ b. b.walker ≡ l.program) l.workers.items;
  as_many : vec_len l.workers ≡ length rest;
  done : All (IsOn l.board.id l.program) l.seated.items;
  many : vec_len l.seated + length rest ≡ vec_len l.fn.seats;
}
