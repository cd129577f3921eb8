use Rattle.std.proofs.Common.{take, All}
use Rattle.runner_joining.specs.Parts.{IsTrue}
use Rattle.runner_joining.proofs.bad_schedules.check_schedules.Given as goal

abbrev pub invariant-loop-part : goal.invariant-loop-part
invariant-loop-part l = All (IsTrue l.program) (take l.part-index l.parts)
