-- What the calls of a board say of its seats.
use Rattle.std.specs.Prelude.{◌≡◌, ◌⊎◌, ℕ, ◌<◌, ◌≤◌, ◌==◌, true, false, List, [], ◌∷◌, ◌++◌}
use Rattle.std.specs.List.{All, Contains, count_by, flat_map}
use Rattle.board.specs.{Board.SeatView, declared.board.TheConstants.NONE_TOLD}

-- all seats together

abbrev pub drawn_by : List SeatView → List ℕ
drawn_by seats = flat_map (λ s. s.drawn) seats

abbrev pub told_by : List SeatView → List ℕ
told_by seats = flat_map (λ s. s.told) seats

abbrev pub answered_to : List SeatView → List ℕ
answered_to seats = flat_map (λ s. s.answered) seats

-- drawing

-- how often a number is in a list
abbrev pub times : ℕ → List ℕ → ℕ
times x xs = count_by (λ y. y == x) xs

-- of each number below n there is one, and of no other any
pub record IsOneBelow (n : ℕ) (how_many : ℕ → ℕ) : Type 0 where
  pub one : (x : ℕ) → x < n → how_many x ≡ 1
  pub no_other : (x : ℕ) → n ≤ x → how_many x ≡ 0

-- each number below n is in the list once, and no other is
abbrev pub HasEachBelow : ℕ → List ℕ → Type 0
HasEachBelow n xs = IsOneBelow n (λ x. times x xs)

-- the seat draws the number k
pub record Draws (before : SeatView) (k : ℕ) (after : SeatView) : Type 0 where
  pub below : k < before.board.limit
  pub rising : All (λ x. x < k) before.drawn
  pub unmarked : before.marked ≡ false
  pub drawn : after ≡ record before { drawn = before.drawn ++ k ∷ [] }

-- the seat is marked, and nothing else
abbrev pub marked : SeatView → SeatView
marked seat = record seat { marked = true }

-- telling

-- the seat has told k besides
abbrev pub with_told : SeatView → ℕ → SeatView
with_told seat k = record seat { told = seat.told ++ k ∷ [] }

-- the seat is answered k as the least number told: none that it told itself, or was answered
-- before, is below it
pub record IsAnswered (before : SeatView) (k : ℕ) (after : SeatView) : Type 0 where
  pub told : All (λ x. k ≤ x) before.told
  pub answered : All (λ x. k ≤ x) before.answered
  pub after_is : after ≡ record before { answered = before.answered ++ k ∷ [] }

-- the number is among those told, or says that none was told before it was answered
abbrev pub WasTold : List ℕ → ℕ → Type 0
WasTold told k = (k ≡ NONE_TOLD) ⊎ Contains told k

-- the least of the numbers told, or `NONE_TOLD`
pub record IsLeastTold (least : ℕ) (told : List ℕ) : Type 0 where
  pub was_told : WasTold told least
  pub at_most : All (λ x. least ≤ x) told

-- an answer to a seat: none was below the least number told at the end
pub record IsSomeTold (least : ℕ) (told : List ℕ) (k : ℕ) : Type 0 where
  pub was_told : WasTold told k
  pub at_least : least ≤ k
