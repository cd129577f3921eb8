-- The statuses that the program ends with, and the faults of devices.
use Rattle.std.specs.Prelude.{◌≡◌, ◌≢◌, ◌⊎◌, ℕ, Option, Some, None}
use Rattle.std.specs.declared.io.ErrorKind.{ErrorKind}
use Rattle.std.specs.declared.io.ErrorKind.TheVariants as io
use Rattle.semantics.specs.declared.view.Kind.{Kind, TheVariants.{Done, Failed, Stuck}}
use Rattle.replay.specs.declared.error.ReplayError.TheVariants as replay
use Rattle.replay.specs.declared.error.ScheduleError.TheVariants as schedule
use Rattle.runner_report.specs.declared.report.Verdict.{Verdict}
use Rattle.runner_report.specs.declared.report.Verdict.TheVariants.{Clean, Bad, Incomplete}
use Rattle.runner_report.specs.declared.error.ExploreError.TheVariants as explore
use Rattle.ctxbound_answers.specs.declared.fault.Fault.{Fault}
use Rattle.ctxbound_answers.specs.declared.fault.Fault.TheVariants.{File, Text, Schedule, Replay, Memory}

-- the status after a replay
abbrev pub replay_status : Option Kind → ℕ
replay_status (Some Done) = 0
replay_status (Some Failed) = 1
replay_status (Some Stuck) = 1
replay_status None = 0

-- the status after a search
abbrev pub verdict_status : Verdict → ℕ
verdict_status (Clean all) = 0
verdict_status (Bad n w kind) = 1
verdict_status (Incomplete cause finished) = 3

-- the status after a fault: 4 for devices and memory, 2 for what the user gave
abbrev pub fault_status : Fault → ℕ
fault_status File = 4
fault_status (Text explore.OutOfMemory) = 4
fault_status (Text e) = 2
fault_status (Schedule schedule.OutOfMemory) = 4
fault_status (Schedule e) = 2
fault_status (Replay replay.OutOfMemory) = 4
fault_status (Replay e) = 2
fault_status Memory = 4

-- the fault of a device's error, by its kind
abbrev pub IsDeviceFault : ErrorKind → Fault → Type 0
IsDeviceFault kind fault =
    ((kind ≡ io.OutOfMemory) × (fault ≡ Memory)) ⊎ ((kind ≢ io.OutOfMemory) × (fault ≡ File))

-- a fault of a device, whatever the kind of its error
abbrev pub IsOfDevice : Fault → Type 0
IsOfDevice fault = (fault ≡ Memory) ⊎ (fault ≡ File)
