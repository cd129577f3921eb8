-- The texts of schedules: what a text spells, and the spelling that is printed.
use Rattle.std.specs.Prelude.{◌≡◌, ◌≢◌, ◌⊎◌, ℕ, ◌+◌, ◌<◌, ◌≤◌, ◌==◌, if◌then◌else◌, List, [], ◌∷◌, ◌++◌, length, map, replicate, slice_index, codes}
use Rattle.std.specs.{Fmt.decimal, List.{slice_split, join_with_byte, sum_by, flat_map, AllZip}}
use Rattle.std.specs.Str.{bytes_eq, Parse.{IsNumeral, digits_value}}
use Rattle.replay.specs.declared.error.ScheduleError.{ScheduleError}
use Rattle.replay.specs.declared.error.ScheduleError.TheVariants.{BadSchedule, TooLong, OutOfMemory}
use Rattle.replay.specs.declared.piece.{Piece.Piece, TheConstants.NUMBERS}
use Rattle.replay.specs.declared.schedule.TheConstants.{PLACES}

-- pieces

-- the text is a thread's number in decimal
pub record SpellsNumber (text : List ℕ) (number : ℕ) : Type 0 where
  pub small : number < NUMBERS
  pub written : text ≡ decimal number

-- the text is a count in decimal: at least 1, of any size, without leading zeros
pub record SpellsCount (text : List ℕ) (count : ℕ) : Type 0 where
  pub digits : IsNumeral 10 text
  pub first : slice_index text 0 ≢ 48
  pub value : count ≡ digits_value 10 text

-- a thread's number alone is one step
pub record IsStep (text : List ℕ) (piece : Piece) : Type 0 where
  pub number : SpellsNumber text piece.thread
  pub once : piece.count ≡ 1

-- a thread's number, `x` and a count are a run of that thread
pub record IsRun (text : List ℕ) (piece : Piece) : Type 0 where
  pub number : List ℕ
  pub count : List ℕ
  pub written : text ≡ number ++ (codes "x" ++ count)
  pub thread : SpellsNumber number piece.thread
  pub times : SpellsCount count piece.count

-- the text spells the piece
abbrev pub SpellsPiece : List ℕ → Piece → Type 0
SpellsPiece text piece = IsStep text piece ⊎ IsRun text piece

-- the text is a piece
abbrev pub IsPiece : List ℕ → Type 0
IsPiece text = (piece : Piece) × SpellsPiece text piece

-- schedules

-- the pieces of a text: `-` has none, any other text is cut at its commas
abbrev pub pieces_of : List ℕ → List (List ℕ)
pieces_of text = if bytes_eq text (codes "-") then [] else slice_split (λ b. b == 44) text

-- the steps of pieces, one after the other
abbrev pub steps_of : List Piece → List ℕ
steps_of pieces = flat_map (λ piece. replicate piece.count piece.thread) pieces

-- each of the texts spells a piece, and this is the schedule of their steps
pub record SpellEach (texts : List (List ℕ)) (w : List ℕ) : Type 0 where
  pub pieces : List Piece
  pub spelt : AllZip SpellsPiece texts pieces
  pub steps : w ≡ steps_of pieces

-- the text spells the schedule
abbrev pub Spells : List ℕ → List ℕ → Type 0
Spells text w = SpellEach (pieces_of text) w

-- refusals

-- how many bytes the pieces take, each with the comma after it
abbrev pub length_with_commas : List (List ℕ) → ℕ
length_with_commas pieces = sum_by (λ piece. length piece + 1) pieces

-- at this offset begins this piece of the text, and those before it spell this schedule, which is
-- not too long
pub record IsReadUpTo (text : List ℕ) (at : ℕ) (piece w : List ℕ) : Type 0 where
  pub before : List (List ℕ)
  pub after : List (List ℕ)
  pub cut : pieces_of text ≡ before ++ piece ∷ after
  pub spelt : SpellEach before w
  pub short : length w ≤ PLACES
  pub offset : at ≡ length_with_commas before

-- here begins the first piece that can't be taken, and it is no piece
pub record IsBadAt (text : List ℕ) (at : ℕ) : Type 0 where
  pub piece : List ℕ
  pub w : List ℕ
  pub read : IsReadUpTo text at piece w
  pub bad : ¬ (IsPiece piece)

-- here begins the first piece that can't be taken, and with it the schedule is too long
pub record IsTooLongAt (text : List ℕ) (at : ℕ) : Type 0 where
  pub piece : List ℕ
  pub w : List ℕ
  pub read : IsReadUpTo text at piece w
  pub steps : Piece
  pub spelt : SpellsPiece piece steps
  pub long : PLACES < length w + steps.count

-- the text spells a schedule that is not too long
pub record IsReadable (text : List ℕ) : Type 0 where
  pub w : List ℕ
  pub spelt : Spells text w
  pub short : length w ≤ PLACES

-- what an error says of the text: memory runs out only for a schedule that the text spells
abbrev pub ScheduleErrorMeans : List ℕ → ScheduleError → Type 0
ScheduleErrorMeans text (BadSchedule at) = IsBadAt text at
ScheduleErrorMeans text (TooLong at) = IsTooLongAt text at
ScheduleErrorMeans text OutOfMemory = IsReadable text

-- the spelling that is printed

-- a piece before others: one with the first of them where that is of the same thread
abbrev pub joined_before : Piece → List Piece → List Piece
joined_before piece [] = piece ∷ []
joined_before piece (next ∷ others) =
    if piece.thread == next.thread
    then record { thread = next.thread; count = piece.count + next.count } ∷ others
    else piece ∷ next ∷ others

-- the longest runs of a schedule
abbrev pub runs_of : List ℕ → List Piece
runs_of [] = []
runs_of (t ∷ w) = joined_before (record { thread = t; count = 1 }) (runs_of w)

-- a run of one step is its thread's number alone
abbrev pub piece_text : Piece → List ℕ
piece_text piece =
    if piece.count == 1
    then decimal piece.thread
    else decimal piece.thread ++ (codes "x" ++ decimal piece.count)

-- `-` where the schedule is empty, else its longest runs, joined by commas
abbrev pub printed : List ℕ → List ℕ
printed [] = codes "-"
printed (t ∷ w) = join_with_byte 44 (map piece_text (runs_of (t ∷ w)))
