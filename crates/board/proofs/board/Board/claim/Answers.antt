use Rattle.std.proofs.Common.{rules, ◌∙◌, ap, if◌then◌else◌, arith}
use Rattle.board.proofs.Steps.{claiming}
use Rattle.board.proofs.board.Board.claim.Goals as goal

pub fetch_add-found-requires : goal.fetch_add-found-requires
fetch_add-found-requires c =
    let shared = c.self.inside.table.shared in let inner = c.seat.inside.inner in
    let i = c.self.invariant in let j = c.seat.invariant in (
      search rules,
      search rules,
      λ s r homes at fits. claiming shared.key shared.table_id.slots inner.id inner.me
          (omega arith) (omega arith) j.1
          (j.2 ∙ ap (λ b. if b then 1 else 0) c.if-seat.false) s r at (search rules),
    )
