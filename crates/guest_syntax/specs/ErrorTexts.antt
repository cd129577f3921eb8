-- What the user is told of a place and of a refused text.
use Rattle.std.specs.Prelude.{ℕ, List, ◌++◌, codes}
use Rattle.std.specs.Fmt.{decimal}
use Rattle.guest_syntax.specs.declared.{error.SyntaxError.SyntaxError, place.Pos.Pos}
use Rattle.guest_syntax.specs.declared.error.SyntaxError.TheVariants as errors

-- line and column with a colon between them
abbrev pub place_text : Pos → List ℕ
place_text at = decimal at.line ++ codes ":" ++ decimal at.col

-- the number and the name of the refusal, and its place
abbrev pub syntax_error_text : SyntaxError → List ℕ
syntax_error_text (errors.NotAscii at) = codes "syntax S1 NotAscii at " ++ place_text at
syntax_error_text (errors.BadChar at) = codes "syntax S2 BadChar at " ++ place_text at
syntax_error_text (errors.Expected at) = codes "syntax S3 Expected at " ++ place_text at
syntax_error_text (errors.NumberTooBig at) = codes "syntax S4 NumberTooBig at " ++ place_text at
syntax_error_text (errors.TooLong at) = codes "syntax S5 TooLong at " ++ place_text at
syntax_error_text (errors.TooDeep at) = codes "syntax S6 TooDeep at " ++ place_text at
syntax_error_text errors.OutOfMemory = codes "memory"
