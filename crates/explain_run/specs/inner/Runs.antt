-- A local run, one instruction after the other.
use Rattle.std.specs.Prelude.{ℕ, ℤ, pos, List, [], ◌∷◌, slice_index_or}
use Rattle.guest_code.specs.declared.program.Instruction.{Instruction, TheVariants.Set}
use Rattle.explain_run.specs.declared.assignments.Assignment.{Assignment}

-- what the instruction of this number has set, where the locals have these values after it
abbrev pub set_at : ℕ → Instruction → List ℤ → List Assignment
set_at at (Set r e) locals =
    record { instruction = at; local = r; value = slice_index_or locals r (pos 0) } ∷ []
set_at at _ locals = []
