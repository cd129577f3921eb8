use Rattle.std.proofs.Common.{◌≡◌, ◌+◌, length, vec_len}
use Rattle.std.specs.List.{All}
use Rattle.runner_workers.specs.inner.Rounds.{IsOn}
use Rattle.runner_workers.proofs.stretch.unseat_workers.Given as goal

abbrev pub invariant-loop-one : goal.invariant-loop-one
invariant-loop-one g l = let rest = l.one-iterator.rest.items in record {
  left : All (IsOn l.board.id g.N.SearchBrand.of.program) rest;
  seats : All (λ s. s.board ≡ l.board.id) l.seats.items;
  workers : All (λ b. b.walker ≡ g.N.SearchBrand.of.program) l.workers.items;
  many : vec_len l.seats + length rest ≡ vec_len l.fn.seated;
  kept : vec_len l.workers + length rest ≡ vec_len l.fn.seated;
}
