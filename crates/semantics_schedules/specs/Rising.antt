-- What can be said of a list of schedules: it rises, it holds each once, and none begins another.
use Rattle.std.specs.Prelude.{◌≡◌, ◌<◌, ℕ, true, List, [], length, slice_index_or, Contains}
use Rattle.semantics_schedules.specs.{Order.precedes, Schedules.begins_with}

-- each schedule comes before all those after it in the list
abbrev pub IsRising : List (List ℕ) → Type 0
IsRising L = (i j : ℕ) → i < j → j < length L
    → precedes (slice_index_or L i []) (slice_index_or L j []) ≡ true

-- no schedule is at two places of the list
abbrev pub HasEachOnce : List (List ℕ) → Type 0
HasEachOnce L = (i j : ℕ) → i < length L → j < length L
    → slice_index_or L i [] ≡ slice_index_or L j [] → i ≡ j

-- no schedule of the list begins with another one
abbrev pub IsPrefixFree : List (List ℕ) → Type 0
IsPrefixFree L = (v w : List ℕ) → Contains L v → Contains L w → begins_with v w ≡ true → v ≡ w
