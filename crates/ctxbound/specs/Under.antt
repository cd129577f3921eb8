-- What is printed of a search under a prefix of the schedules of a program.
use Rattle.std.specs.Prelude.{◌≡◌, ◌-◌, ℕ, List, ◌++◌, length, slice_get, Option, Some, None, codes}
use Rattle.std.specs.Prelude.{string_bytes}
use Rattle.std.specs.{List.flat_map, Option.option_map_or}
use Rattle.guest_code.specs.Program.{Program}
use Rattle.replay.specs.Spelling.{Spells}
use Rattle.runner_report.specs.{Texts.IsProgramOf, declared.level.Level.Level}
use Rattle.runner_report.specs.declared.report.Cause.{Cause}
use Rattle.runner_parts.specs.PartText.{guest_of, part_text}
use Rattle.runner_parts.specs.declared.guest.GuestDigest.{GuestDigest}
use Rattle.runner_joining.specs.Found.{AreLevelsUnder}
use Rattle.ctxbound_answers.specs.declared.answer.Printed.{Printed}
use Rattle.ctxbound_answers.specs.declared.request.UnderRequest.{UnderRequest}

-- the line of a level
abbrev pub level_line : GuestDigest → List ℕ → Level → List ℕ
level_line guest prefix level =
    part_text (record { under = prefix; level = level; guest = guest }) ++ codes "\n"

-- the status where a search ended with this cause, if it was cut short, and first bad schedule
abbrev pub ended_status : Option Cause → Option (List ℕ) → ℕ
ended_status (Some cause) bad = 3
ended_status None (Some w) = 1
ended_status None None = 0

abbrev pub level_status : Level → ℕ
level_status l = ended_status l.cause l.summary.first_bad

-- the status of the last level
abbrev pub last_status : List Level → ℕ
last_status levels = option_map_or level_status (slice_get levels (length levels - 1)) 0

-- a line for each level of what is under the prefix of the program that the text spells, and the
-- status
pub record IsSearchUnder (text : List ℕ) (request : UnderRequest) (printed : Printed) : Type 0 where
  pub program : Program
  pub of : IsProgramOf text program
  pub steps : List ℕ
  pub spelt : Spells (string_bytes request.prefix) steps
  pub levels : List Level
  pub found : AreLevelsUnder program request.search.options steps levels
  pub lines : printed.output.items ≡ flat_map (level_line (guest_of text) steps) levels
  pub status : printed.status ≡ last_status levels
