use Rattle.guest_syntax.specs.{Answers.is_token, reader.TokenViews.kind_view}
use Rattle.guest_syntax.proofs.tokens.number_in.Goals as goal

pub returns-in_default-clause-place : goal.returns-in_default-clause-place
returns-in_default-clause-place c = λ text spelt. is_token (kind_view c.args.token.kind) spelt
