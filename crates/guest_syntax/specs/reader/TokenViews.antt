-- What the values of the code stand for.
use Rattle.guest_syntax.specs.declared.token.{Token.Token, TokenKind.TokenKind}
use Rattle.guest_syntax.specs.declared.token.TokenKind.TheVariants as kinds
use Rattle.guest_syntax.specs.Tokens as tokens

abbrev pub kind_view : TokenKind → tokens.TokenKind
kind_view (kinds.Name s) = tokens.name s.now
kind_view (kinds.Keyword w) = tokens.keyword w
kind_view (kinds.Number n) = tokens.number n
kind_view (kinds.Symbol s) = tokens.symbol s

abbrev pub token_view : Token → tokens.Token
token_view t = record { kind = kind_view t.kind; at = t.at }
