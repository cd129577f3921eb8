use Rattle.runner_rounds.specs.Rounds.{IsOf}
use Rattle.runner_workers.proofs.team.walk_and_settle_in_order.Given as goal

abbrev pub invariant-loop-k : goal.invariant-loop-k
invariant-loop-k g l = IsOf l.book l.fn.book.of l.fn.book.mode l.fn.book.quick l.fn.book.lists
