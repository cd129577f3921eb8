use Rattle.std.proofs.Common.{◌≡◌, vec_len}
use Rattle.std.specs.List.{All}
use Rattle.runner_workers.proofs.team.Team.new.Given as goal

abbrev pub invariant-loop-number : goal.invariant-loop-number
invariant-loop-number l = record {
  of : All (λ b. b.walker ≡ l.fn.book.of.program) l.workers.items;
  many : vec_len l.workers ≡ l.number;
}
