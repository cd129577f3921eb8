-- Where an end view stands in a sorted list.
use Rattle.std.specs.Prelude.{◌≡◌, ◌<◌, ◌≤◌, ℕ, List, length, insert, Result, MatchResult}
use Rattle.semantics.specs.View.{View}
use Rattle.walk_summary.specs.Summaries.{with_view}

-- an index at which the view stands, so that the list has it, or one at which it is to be inserted
abbrev pub IsPlaceOf : View → List View → Result ℕ ℕ → Type 0
IsPlaceOf v ends place = MatchResult place
    (λ i. (i < length ends) × (with_view v ends ≡ ends))
    (λ i. (i ≤ length ends) × (with_view v ends ≡ insert ends i v))
