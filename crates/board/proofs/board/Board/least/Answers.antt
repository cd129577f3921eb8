use Rattle.std.proofs.Common.{rules, arith}
use Rattle.board.proofs.Steps.{asking}
use Rattle.board.proofs.board.Board.least.Goals as goal

pub load-requires : goal.load-requires
load-requires c =
    let shared = c.self.inside.table.shared in let inner = c.seat.inside.inner in
    let j = c.seat.invariant in (
      search rules,
      search rules,
      asking shared.key shared.table_id.slots inner.id inner.me (omega arith),
    )
