-- Pieces as a program holds them, and refusals before memory is asked for.
use Rattle.std.specs.Prelude.{◌≡◌, ℕ, ◌-◌, ◌^◌, List, min}
use Rattle.replay.specs.declared.piece.Piece.{Piece}
use Rattle.replay.specs.declared.error.ScheduleError.{ScheduleError}
use Rattle.replay.specs.declared.error.ScheduleError.TheVariants.{BadSchedule, TooLong, OutOfMemory}
use Rattle.replay.specs.Spelling.{SpellsPiece, IsBadAt, IsTooLongAt}

-- the text spells a piece that is held so: a count that is larger than any number is held as the
-- largest
pub record IsHeldAs (text : List ℕ) (held : Piece) : Type 0 where
  pub count : ℕ
  pub spelt : SpellsPiece text (record { thread = held.thread; count = count })
  pub bounded : held.count ≡ min count (2 ^ 64 - 1)

-- what a refusal says of the text; that never is for memory
abbrev pub RefusalMeans : List ℕ → ScheduleError → Type 0
RefusalMeans text (BadSchedule at) = IsBadAt text at
RefusalMeans text (TooLong at) = IsTooLongAt text at
RefusalMeans text OutOfMemory = ⊥
