use Rattle.std.proofs.Common.{◌<◌, ◌≤◌, ℕ, length, get_or}
use Rattle.guest_code.specs.{Program.Thread as CodeThread, declared.limits.TheConstants.LOCALS}
use Rattle.semantics_machine.proofs.machine.most_locals.Given as goal

abbrev pub invariant-loop-t : goal.invariant-loop-t
invariant-loop-t l = record {
  few : l.width ≤ LOCALS;
  each : (u : ℕ) → u < l.t → u < length l.program.threads → (d : CodeThread)
      → (get_or l.program.threads u d).locals ≤ l.width;
}
