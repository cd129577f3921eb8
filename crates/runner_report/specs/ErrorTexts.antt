-- What the user is told where a search has no report.
use Rattle.std.specs.Prelude.{ℕ, List, codes}
use Rattle.guest_syntax.specs.ErrorTexts.{syntax_error_text}
use Rattle.guest_code.specs.ErrorTexts.{check_error_text}
use Rattle.runner_report.specs.declared.error.ExploreError.{ExploreError}
use Rattle.runner_report.specs.declared.error.ExploreError.TheVariants.{Syntax, Check, OutOfMemory}

-- what is wrong with the text, or that memory ran out
abbrev pub explore_error_text : ExploreError → List ℕ
explore_error_text (Syntax e) = syntax_error_text e
explore_error_text (Check e) = check_error_text e
explore_error_text OutOfMemory = codes "memory"
