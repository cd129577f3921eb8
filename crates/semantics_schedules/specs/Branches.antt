-- A program as a value, whose threads take no step: the flat code of `set r N; if r == 5 { set q 7;
-- } else { set q 9; } assert q == 7;`, by one thread with 5 for N and by one with 4.
use Rattle.std.specs.Prelude.{◌≡◌, ℕ, ℤ, pos, List, [], ◌∷◌}
use Rattle.guest_syntax.specs.declared.tree.Op.TheVariants.{Equal}
use Rattle.guest_code.specs.{Program.Program, declared.program.Expression.Expression}
use Rattle.guest_code.specs.declared.program.Expression.TheVariants.{Single, Both}
use Rattle.guest_code.specs.declared.program.Instruction.{Instruction}
use Rattle.guest_code.specs.declared.program.Instruction.TheVariants.{Set, Assert, SkipIfZero, Skip}
use Rattle.guest_code.specs.declared.program.Value.TheVariants.{Local, Literal}
use Rattle.semantics.specs.{Effects.local_of, declared.state.Status.Status}
use Rattle.semantics.specs.declared.state.Thread.{Thread}

abbrev pub number : ℕ → Expression
number n = Single (Literal (pos n))

abbrev pub equals : ℕ → ℕ → Expression
equals r n = Both (Local r) Equal (Literal (pos n))

-- r is local 0, and q is local 1
abbrev pub branch : ℕ → List Instruction
branch n =
    Set 0 (number n)
    ∷ SkipIfZero (equals 0 5) 2
    ∷ Set 1 (number 7)
    ∷ Skip 1
    ∷ Set 1 (number 9)
    ∷ Assert (equals 1 7)
    ∷ []

-- the names are `A` and `B`
abbrev pub branches : Program
branches = record {
  variables = [];
  mutexes = [];
  conditions = [];
  semaphores = [];
  threads =
      record { name = 65 ∷ []; locals = 2; code = branch 5 }
      ∷ record { name = 66 ∷ []; locals = 2; code = branch 4 }
      ∷ [];
}

-- the thread is at this instruction, of this status, and q has this value
pub record IsAt (th : Thread) (n : ℕ) (now : Status) (v : ℤ) : Type 0 where
  pub pc : th.pc ≡ n
  pub status : th.status ≡ now
  pub q : local_of th 1 ≡ v
