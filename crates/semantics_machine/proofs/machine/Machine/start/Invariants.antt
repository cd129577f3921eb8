use Rattle.std.proofs.Common.{◌≤◌}
use Rattle.guest_code.specs.declared.limits.TheConstants.{LOCALS}
use Rattle.semantics.specs.Machine.{start}
use Rattle.semantics_machine.specs.inner.Opening.{IsOpening}
use Rattle.semantics_machine.proofs.machine.Machine.start.Given as goal

abbrev pub invariant-loop-t : goal.invariant-loop-t
invariant-loop-t l = record {
  few : l.machine.shape.width ≤ LOCALS;
  opening : IsOpening l.program (start l.program) l.t l.machine;
}
