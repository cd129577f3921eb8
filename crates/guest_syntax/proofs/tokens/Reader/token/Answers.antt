use Rattle.guest_syntax.specs.Answers.{is_end}
use Rattle.guest_syntax.proofs.tokens.Reader.token.Goals as goal

pub returns-in-None-clause-within : goal.returns-in-None-clause-within
returns-in-None-clause-within c = is_end (c.in_ok-token.ensures.end c.in-None.is)
