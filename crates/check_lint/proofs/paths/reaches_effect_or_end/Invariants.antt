use Rattle.std.proofs.Common.{ℕ, ◌<◌, Bool, IsTrue, get_or}
use Rattle.guest_code.specs.declared.program.Instruction.TheVariants.{Skip}
use Rattle.check_lint.specs.Paths.{acts, Marked}
use Rattle.check_lint.proofs.paths.reaches_effect_or_end.Given as goal

abbrev pub invariant-loop-at : goal.invariant-loop-at
invariant-loop-at l = (j : ℕ) (b : Bool) → j < l.at → Marked l.marks j b
    → ¬ IsTrue (acts (get_or l.code j (Skip 0)))
