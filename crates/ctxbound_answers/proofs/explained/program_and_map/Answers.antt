use Rattle.std.proofs.lemmas.Result.{err_from_is_err_and}
use Rattle.runner.proofs.ReadTexts.{syntax_means}
use Rattle.ctxbound_answers.proofs.explained.program_and_map.Goals as goal

pub returns-in_err-tree-clause-error : goal.returns-in_err-tree-clause-error
returns-in_err-tree-clause-error c =
    let p = err_from_is_err_and c.from_residual.result c.from_residual.ensures.1 in
    rw (p.1, p.2)
    (syntax_means c.args.text.now c.in_err-tree.field-0.0 c.in_err-tree.ensures.refused)
