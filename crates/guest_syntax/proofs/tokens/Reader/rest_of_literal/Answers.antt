use Rattle.guest_syntax.specs.{Answers.is_token, reader.TokenViews.kind_view}
use Rattle.guest_syntax.proofs.tokens.Reader.rest_of_literal.Goals as goal

pub returns-in_default-clause-within : goal.returns-in_default-clause-within
returns-in_default-clause-within c = is_token (kind_view c.args.token.kind) c.requires.place
