use Rattle.std.proofs.lemmas.Result.{err_from_is_err_and}
use Rattle.guest_code.specs.{Program.locals_view, inner.Walk.all_uses}
use Rattle.guest_code.proofs.CheckIsFault.{block_goes, block_stops}
use Rattle.guest_code.proofs.check.+body.Goals as goal

pub check_block-returns-in_err-check_statement : goal.check_block-returns-in_err-check_statement
check_block-returns-in_err-check_statement t c =
    let p = err_from_is_err_and c.from_residual.result c.from_residual.ensures.1 in
    rw (p.1, p.2) (block_stops (all_uses c.args.scope.tree.now) c.args.scope.in_repeat
    c.args.block.now c.loop-placed.placed-index c.placed-item.result
    (locals_view c.loop-placed.locals) c.in_err-check_statement.field-0.0 _
    c.loop-placed-test.true c.placed-item.is c.in_err-check_statement.ensures
    c.loop-placed.invariant)

pub check_block-loop-placed-preserved : goal.check_block-loop-placed-preserved
check_block-loop-placed-preserved t c =
    block_goes (all_uses c.args.scope.tree.now) c.args.scope.in_repeat c.args.block.now
    c.loop-placed.placed-index c.placed-item.result
    (locals_view c.loop-placed.locals) (locals_view c.check_statement.new.locals) _
    c.loop-placed-test.true c.placed-item.is c.in_ok-check_statement.ensures
    c.loop-placed.invariant
