-- What the user is told of a schedule that can't be read or doesn't run.
use Rattle.std.specs.Prelude.{ℕ, List, ◌++◌, codes}
use Rattle.std.specs.Fmt.{decimal}
use Rattle.replay.specs.declared.error.{ReplayError.ReplayError, ScheduleError.ScheduleError}
use Rattle.replay.specs.declared.error.ReplayError.TheVariants as runs
use Rattle.replay.specs.declared.error.ScheduleError.TheVariants as texts

-- the number and the name of the refusal, and the place in the schedule
abbrev pub replay_error_text : ReplayError → List ℕ
replay_error_text (runs.NoSuchThread at) = codes "schedule P1 NoSuchThread at " ++ decimal at
replay_error_text (runs.NotEnabled at) = codes "schedule P2 NotEnabled at " ++ decimal at
replay_error_text runs.OutOfMemory = codes "memory"

-- the number and the name of the refusal, and the offset in the text
abbrev pub schedule_error_text : ScheduleError → List ℕ
schedule_error_text (texts.BadSchedule at) = codes "schedule Q1 BadSchedule at " ++ decimal at
schedule_error_text (texts.TooLong at) = codes "schedule Q3 TooLong at " ++ decimal at
schedule_error_text texts.OutOfMemory = codes "memory"
