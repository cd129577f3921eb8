use Rattle.explain_waits.specs.Waiting.{IsLastStep}
use Rattle.explain_waits.proofs.wait.last_step.Given as goal

abbrev pub invariant-loop-place : goal.invariant-loop-place
invariant-loop-place l = IsLastStep l.steps l.thread l.place l.last
