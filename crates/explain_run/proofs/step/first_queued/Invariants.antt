use Rattle.std.proofs.Common.{◌≡◌, take}
use Rattle.semantics.specs.Machine.{queue_of}
use Rattle.explain_run.proofs.step.first_queued.Given as goal

abbrev pub invariant-loop-place : goal.invariant-loop-place
invariant-loop-place l = l.queued.items ≡ take l.place (queue_of l.state l.condition)
