-- Spaces and comments, byte by byte.
use Rattle.std.specs.Prelude.{ℕ, Bool, true, false, not, ◌==◌, nat_le, if◌then◌else◌}
use Rattle.guest_syntax.specs.Tokens.{is_space}

-- what a byte is to spaces and comments: one of them, after which a comment goes on or not, none of
-- them, or above 127
pub data Step : Type 0 where
  Passed : Bool → Step
  Stops : Step
  NotAscii : Step

abbrev pub gap_step : Bool → ℕ → Step
gap_step comment b =
    if nat_le 128 b then NotAscii
    else (if comment then Passed (not (b == 10))
    else (if b == 35 then Passed true
    else (if is_space b then Passed false
    else Stops)))
