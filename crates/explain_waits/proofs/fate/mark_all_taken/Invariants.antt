use Rattle.std.proofs.Common.{ℕ, ℤ, List}
use Rattle.guest_code.specs.declared.program.Instruction.{Instruction}
use Rattle.explain_waits.specs.inner.Taking.{AreFates}
use Rattle.explain_waits.proofs.fate.mark_all_taken.Given as goal

abbrev pub invariant-loop-place : goal.invariant-loop-place
invariant-loop-place l = (code : List Instruction) (from : ℕ) (locals : List ℤ) →
    AreFates code from locals l.steps l.thread 0 l.fn.fates →
    AreFates code from locals l.steps l.thread l.place l.fates
