use Rattle.std.proofs.Common.{◌≡◌, map, take}
use Rattle.semantics.proofs.initial.initial_values.Given as goal

abbrev pub invariant-loop-x : goal.invariant-loop-x
invariant-loop-x l = l.values.items ≡ map (λ v. v.opening) (take l.x l.program.variables)
