-- The lines of parts.
use Rattle.std.specs.Prelude.{◌≡◌, ◌≢◌, ◌==◌, ◌+◌, ℕ, Bool, not, List, ◌∷◌, ◌++◌, length, filter}
use Rattle.std.specs.{Char.is_ascii_whitespace, List.{AllZip, list_all, slice_split}}
use Rattle.walk_summary.specs.Summaries.{cut}
use Rattle.runner_parts.specs.PartText.{PartView, IsPart, IsLineOf}
use Rattle.runner_parts.specs.declared.error.LineError.{LineError}
use Rattle.runner_parts.specs.declared.error.PartError.TheVariants.{OutOfMemory}

-- the lines of a text: it is cut at its line feeds
abbrev pub lines_of : List ℕ → List (List ℕ)
lines_of text = slice_split (λ b. b == 10) text

-- the line has nothing but blanks
abbrev pub is_blank : List ℕ → Bool
is_blank line = list_all is_ascii_whitespace line

-- the lines that aren't blank are of these parts, in this order
abbrev pub AreLinesOf : List (List ℕ) → List PartView → Type 0
AreLinesOf lines xs = AllZip IsLineOf (filter (λ line. not (is_blank line)) lines) xs

-- the error tells the first line that is no part's, or one at which memory ran out; lines are
-- counted from 1, up to the greatest count
pub record IsFirstRefused (text : List ℕ) (e : LineError) : Type 0 where
  pub before : List (List ℕ)
  pub line : List ℕ
  pub after : List (List ℕ)
  pub lines : lines_of text ≡ before ++ line ∷ after
  pub number : e.number ≡ cut (length before + 1)
  pub read : (xs : List PartView) × AreLinesOf before xs
  pub none : e.error ≢ OutOfMemory → (x : PartView) → IsPart x → ¬ (IsLineOf line x)
