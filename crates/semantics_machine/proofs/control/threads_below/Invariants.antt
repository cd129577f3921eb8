use Rattle.std.proofs.Common.{◌≡◌, ℕ, nat_lt}
use Rattle.semantics.specs.Mask.{has}
use Rattle.semantics_machine.proofs.control.threads_below.Given as goal

abbrev pub invariant-loop-t : goal.invariant-loop-t
invariant-loop-t l = (u : ℕ) → has l.all u ≡ nat_lt u l.t
