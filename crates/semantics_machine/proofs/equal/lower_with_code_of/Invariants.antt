use Rattle.std.proofs.Common.{◌≡◌, ◌↔◌, ◌<◌, ℕ, true}
use Rattle.guest_code.specs.Program.{code_of}
use Rattle.semantics.specs.Mask.{has}
use Rattle.semantics_machine.proofs.equal.lower_with_code_of.Given as goal

abbrev pub invariant-loop-lower : goal.invariant-loop-lower
invariant-loop-lower l = (u : ℕ) → (has l.alike u ≡ true)
    ↔ ((u < l.lower) × (code_of l.program u ≡ code_of l.program l.thread))
