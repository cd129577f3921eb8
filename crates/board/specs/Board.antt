-- What contracts see of a board, of its seats, and of what was claimed.
use Rattle.std.specs.Prelude.{ℕ, Bool, false, List, []}
use Rattle.atomic_table.specs.Seated.{TableId}

-- which board it is, and the limit of its numbers: they are those below it
pub record BoardId : Type 0 where
  pub table : TableId
  pub limit : ℕ

-- a board, and how many seats were made with it
pub record BoardView : Type 0 where
  pub id : BoardId
  pub seats : ℕ

-- a seat: its board; the numbers that it drew, those that it told, and those that it was answered
-- as the least one told, each in the order of the calls; whether it was answered that all are drawn
pub record SeatView : Type 0 where
  pub board : BoardId
  pub drawn : List ℕ
  pub told : List ℕ
  pub answered : List ℕ
  pub marked : Bool

-- a seat before its first call
abbrev pub new_seat : BoardId → SeatView
new_seat board = record { board = board; drawn = []; told = []; answered = []; marked = false }

-- what is known at the end: how many numbers were drawn, and the least one told
pub record ClaimsView : Type 0 where
  pub count : ℕ
  pub least : ℕ
