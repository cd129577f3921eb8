use Rattle.std.proofs.Common.{rules, arith}
use Rattle.board.proofs.Steps.{telling}
use Rattle.board.proofs.board.Board.tell.Goals as goal

pub fetch_min-requires : goal.fetch_min-requires
fetch_min-requires c =
    let shared = c.self.inside.table.shared in let inner = c.seat.inside.inner in
    let j = c.seat.invariant in (
      search rules,
      search rules,
      telling shared.key shared.table_id.slots inner.id inner.me c.args.k (omega arith),
    )
