-- Lists of prefixes.
use Rattle.std.specs.Prelude.{ℕ, suc, ◌-◌, Bool, false, ◌||◌, ◌&&◌, if◌then◌else◌, nat_eq, nat_lt, List, [], ◌∷◌, length, slice_index_or}

-- the last of these prefixes; the empty one where there is none
abbrev pub last_of : List (List ℕ) → List ℕ
last_of prefixes = slice_index_or prefixes (length prefixes - 1) []

-- how many steps two prefixes begin with alike
unfoldable pub common_length : List ℕ → List ℕ → ℕ
common_length [] w = 0
common_length (t ∷ p) [] = 0
common_length (t ∷ p) (u ∷ w) = if nat_eq t u then suc (common_length p w) else 0

-- the prefix differs from the schedule at some place, and is greater at the first such place
abbrev pub is_later : List ℕ → List ℕ → Bool
is_later [] prefix = false
is_later (u ∷ w) [] = false
is_later (u ∷ w) (t ∷ prefix) = nat_lt u t || (nat_eq u t && is_later w prefix)
