use Rattle.std.proofs.Common.{◌≡◌, ◌≤◌, ◌+◌, List, length, ℤ, pos, get_or}
use Rattle.guest_code.specs.declared.program.Instruction.TheVariants.{Broadcast}
use Rattle.semantics.specs.Machine.{Snapshot}
use Rattle.semantics_machine.specs.inner.Steps.{IsPoised, IsCalling}
use Rattle.semantics_machine.proofs.control.Control.broadcast.Given as goal

abbrev pub invariant-loop-self : goal.invariant-loop-self
invariant-loop-self l = record {
  few : get_or l.self.lengths l.c 0 ≤ 16;
  calling : (s : Snapshot) → (cells mine : List ℤ)
      → IsPoised l.program s l.thread (Broadcast l.c) l.fn.self cells mine
      → l.queue ≡ get_or cells (length s.vars + l.c) (pos 0)
      → IsCalling l.program s l.thread l.c l.self cells;
}

abbrev pub decreases-loop-self : goal.decreases-loop-self
decreases-loop-self l = get_or l.self.lengths l.c 0
