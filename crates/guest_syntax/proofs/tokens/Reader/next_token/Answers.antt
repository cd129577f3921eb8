use Rattle.std.proofs.lemmas.Result.{err_from_is_err_and}
use Rattle.guest_syntax.proofs.NextToken.{next_gives, next_fails, next_takes_one, next_place}
use Rattle.guest_syntax.proofs.tokens.Reader.next_token.Goals as goal

pub returns-in_err-token-clause-gives : goal.returns-in_err-token-clause-gives
returns-in_err-token-clause-gives c =
    let p = err_from_is_err_and c.from_residual.result c.from_residual.ensures.1 in
    rw (p.1, p.2) (next_fails _ _ _ c.in_err-token.ensures.gives)

pub returns-clause-gives : goal.returns-clause-gives
returns-clause-gives c = next_gives _ _ _ _ c.in_ok-token.token c.in_ok-token.ensures.gives
    c.in_ok-token.ensures.end

pub returns-clause-shorter : goal.returns-clause-shorter
returns-clause-shorter c =
    next_takes_one _ _ _ _ c.in_ok-token.token c.in_ok-token.ensures.gives

pub returns-clause-place : goal.returns-clause-place
returns-clause-place c = next_place c.args.self.now c.in_ok-token.token c.in_ok-token.ensures.place
