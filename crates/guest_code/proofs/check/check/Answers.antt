use Rattle.std.proofs.Common.{arith}
use Rattle.std.proofs.lemmas.Result.{err_from_is_err_and}
use Rattle.guest_code.proofs.CheckAnswers.{all_not, none_there, long_not, all_right}
use Rattle.guest_code.proofs.check.check.Goals as goal

pub returns-in_err-all-clause-gives : goal.returns-in_err-all-clause-gives
returns-in_err-all-clause-gives c =
    let p = err_from_is_err_and c.from_residual.result c.from_residual.ensures.1 in
    rw (p.1, p.2) (all_not c.args.tree.now c.in_err-all.field-0.0 c.in_err-all.ensures.gives)

pub returns-then-threads-eq0-clause-gives : goal.returns-then-threads-eq0-clause-gives
returns-then-threads-eq0-clause-gives c = none_there c.args.tree.now _ c.threads-threads.ensures
    c.in_ok-all.ensures.gives (omega arith)

pub returns-in_err-check_lengths-clause-gives : goal.returns-in_err-check_lengths-clause-gives
returns-in_err-check_lengths-clause-gives c =
    let p = err_from_is_err_and c.from_residual-in_err-check_lengths.result
    c.from_residual-in_err-check_lengths.ensures.1 in
    rw (p.1, p.2) (long_not c.args.tree.now _ tt c.in_err-check_lengths.field-0.0
    c.threads-threads.ensures c.in_ok-all.ensures.gives (omega arith)
    c.in_err-check_lengths.ensures)

pub returns-clause-gives : goal.returns-clause-gives
returns-clause-gives c = all_right c.args.tree.now _ tt c.threads-threads.ensures
    c.in_ok-all.ensures.gives (omega arith) c.in_ok-check_lengths.ensures
