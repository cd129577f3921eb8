use Rattle.std.proofs.Common.{ℕ, ◌≤◌, ◌-◌, List, ◌++◌, length}
use Rattle.explain_waits.specs.Looks.{LooksAt, resumed_at}
use Rattle.explain_waits.proofs.look.Look.after.Given as goal

abbrev pub invariant-loads : goal.invariant-loads
invariant-loads l = record {
  inside : l.at ≤ length l.code;
  so_far : (xs : List ℕ) (last : ℕ) → LooksAt l.code l.values l.at l.locals xs last
      → LooksAt l.code l.values (resumed_at l.code l.woken.from l.fn.locals).pc
      (resumed_at l.code l.woken.from l.fn.locals).locals (l.variables.items ++ xs) last;
}

abbrev pub decreases-loads : goal.decreases-loads
decreases-loads l = length l.code - l.at
