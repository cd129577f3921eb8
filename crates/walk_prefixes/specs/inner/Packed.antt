-- How a stack of schedules is laid out in bytes.
use Rattle.std.specs.Prelude.{◌≡◌, ℕ, zero, suc, ◌+◌, ◌-◌, ◌*◌, ◌/◌, ◌%◌, ◌^◌, ◌<◌, ◌≤◌, ◌⊎◌, ◌&&◌, Bool, true, false, if◌then◌else◌, nat_lt, List, [], ◌∷◌, ◌++◌, length, take, drop, slice_index_or}
use Rattle.std.specs.Int.{from_le_bytes, to_le_bytes, w64}

-- one bit of a way's last byte says that the schedule to which it leads is removed
abbrev pub mark : Bool → ℕ
mark true = 128
mark false = 0

-- The bytes of a way back: the steps to put back, and at the end how many steps to take away
-- and how many to put back, in one byte where both are small, else in 17.
unfoldable pub way_bytes : ℕ → List ℕ → Bool → List ℕ
way_bytes dropped tail removed =
    if nat_lt dropped 8 && nat_lt (length tail) 15
    then tail ++ (mark removed + (dropped * 16 + length tail)) ∷ []
    else tail ++ to_le_bytes w64 dropped ++ to_le_bytes w64 (length tail)
    ++ (mark removed + 15) ∷ []

-- the last byte says whether the numbers are in it
unfoldable pub head_of : List ℕ → ℕ
head_of bytes = slice_index_or bytes (length bytes - 1) 0

-- the eight bytes from a place on, as a number
unfoldable pub number_at : ℕ → List ℕ → ℕ
number_at i bytes = from_le_bytes w64 (take 8 (drop i bytes))

-- it is so
unfoldable pub is_short : List ℕ → Bool
is_short bytes = nat_lt (head_of bytes % 16) 15

-- what the way on top of the bytes says: how many steps to take away
unfoldable pub dropped_of : List ℕ → ℕ
dropped_of bytes =
    if is_short bytes
    then head_of bytes / 16 % 8
    else (if nat_lt (length bytes) 17 then 0 else number_at (length bytes - 17) bytes)

-- where the steps to put back end
unfoldable pub end_of : List ℕ → ℕ
end_of bytes = if is_short bytes then length bytes - 1 else length bytes - 17

-- where they start
unfoldable pub start_of : List ℕ → ℕ
start_of bytes =
    if is_short bytes
    then end_of bytes - head_of bytes % 16
    else end_of bytes - (if nat_lt (length bytes) 17 then 0 else number_at (length bytes - 9) bytes)

-- whether the schedule to which it leads is removed
unfoldable pub removed_of : List ℕ → Bool
removed_of bytes = nat_lt 127 (head_of bytes)

-- the bytes below that way
abbrev pub below_of : List ℕ → List ℕ
below_of bytes = take (start_of bytes) bytes

-- the steps to put back
abbrev pub tail_of : List ℕ → List ℕ
tail_of bytes = take (end_of bytes - start_of bytes) (drop (start_of bytes) bytes)

-- the schedule before this one, by the way on top of the bytes
abbrev pub before : List ℕ → List ℕ → List ℕ
before bytes last = take (length last - dropped_of bytes) last ++ tail_of bytes

-- a schedule, unless it is removed
abbrev pub unless : Bool → List ℕ → List (List ℕ)
unless true last = []
unless false last = last ∷ []

-- of that many schedules, of which this is the last, those that aren't removed
unfoldable pub listed : ℕ → List ℕ → List ℕ → Bool → List (List ℕ)
listed zero bytes last removed = []
listed (suc n) bytes last removed =
    listed n (below_of bytes) (before bytes last) (removed_of bytes) ++ unless removed last

-- ways back, the top one first: how many steps to take away, what to put back, and whether the
-- schedule to which it leads is removed
abbrev pub Way : Type 0
Way = ℕ × List ℕ × Bool

-- where a way leads from a schedule
abbrev pub back : Way → List ℕ → List ℕ
back w last = take (length last - w.0) last ++ w.1

-- the bytes of such ways, and where they lead in the end
unfoldable pub ways_bytes : List Way → List ℕ
ways_bytes [] = []
ways_bytes (w ∷ ws) = ways_bytes ws ++ way_bytes w.0 w.1 w.2

unfoldable pub first_by : List Way → List ℕ → List ℕ
first_by [] last = last
first_by (w ∷ ws) last = first_by ws (back w last)

-- each number fits, and no schedule on the way is longer than the bound
unfoldable pub AreWays : List Way → List ℕ → ℕ → Type 0
AreWays [] last longest = length last ≤ longest
AreWays (w ∷ ws) last longest = (w.0 < 2 ^ 64) × (length w.1 < 2 ^ 64) × (length last ≤ longest)
    × AreWays ws (back w last) longest

-- The bytes are those of ways that lead from the last schedule back to the first.
pub record IsStack (count : ℕ) (bytes last first : List ℕ) (longest : ℕ) : Type 0 where
  pub ways : List Way
  pub counted : count ≡ length ways + 1
  pub spelt : bytes ≡ ways_bytes ways
  pub leads : first ≡ first_by ways last
  pub sound : AreWays ways last longest

-- a stack, or no schedule
abbrev pub IsPacked : ℕ → List ℕ → List ℕ → List ℕ → ℕ → Type 0
IsPacked count bytes last first longest = (count ≡ 0) ⊎ IsStack count bytes last first longest

-- that many schedules, of which this many are removed
abbrev pub IsCounted : ℕ → ℕ → List ℕ → List ℕ → Type 0
IsCounted count removed bytes last = count ≡ length (listed count bytes last false) + removed

-- the bytes are those of more ways from a schedule than this many, all within a bound
pub record AreWaysOn (bytes : List ℕ) (count : ℕ) (last : List ℕ) (longest : ℕ) : Type 0 where
  pub ways : List Way
  pub more : count ≤ length ways
  pub spelt : bytes ≡ ways_bytes ways
  pub sound : AreWays ways last longest

-- this many of these ways lead back from a schedule to another, and the bytes below a place are those
-- of the others
pub record WentBack (ways : List Way) (bytes : List ℕ) (count : ℕ) (last : List ℕ) (at : ℕ)
    (left : List ℕ) (longest : ℕ) : Type 0 where
  pub taken : List Way
  pub others : List Way
  pub all : ways ≡ taken ++ others
  pub counted : length taken ≡ count
  pub within : at ≤ length bytes
  pub below : take at bytes ≡ ways_bytes others
  pub above : drop at bytes ≡ ways_bytes taken
  pub leads : left ≡ first_by taken last
  pub sound : AreWays taken last longest
  pub rest : AreWays others left longest
