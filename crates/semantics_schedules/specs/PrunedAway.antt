-- A program as a value, and its schedules written out by hand: `var x; var y; thread A { store y 1;
-- load r x; assert r == 0; } thread B { store x 1; }`. Its assertion fails where B goes before A's
-- load.
use Rattle.std.specs.Prelude.{ℕ, pos, List, [], ◌∷◌}
use Rattle.guest_syntax.specs.declared.tree.Op.TheVariants.{Equal}
use Rattle.guest_code.specs.{Program.Program, declared.program.Expression.TheVariants.Both}
use Rattle.guest_code.specs.declared.program.Instruction.{Instruction}
use Rattle.guest_code.specs.declared.program.Instruction.TheVariants.{Load, Store, Assert}
use Rattle.guest_code.specs.declared.program.Value.TheVariants.{Local, Literal}

-- store 1 to y, load x into local 0, and assert that this is 0
abbrev pub asserting : List Instruction
asserting =
    Store 1 (Literal (pos 1))
    ∷ Load 0 0
    ∷ Assert (Both (Local 0) Equal (Literal (pos 0)))
    ∷ []

-- store 1 to x
abbrev pub storing : List Instruction
storing = Store 0 (Literal (pos 1)) ∷ []

-- the names are `x`, `y`, `A` and `B`
abbrev pub pruned_away : Program
pruned_away = record {
  variables = record { name = 120 ∷ []; opening = pos 0 }
      ∷ record { name = 121 ∷ []; opening = pos 0 } ∷ [];
  mutexes = [];
  conditions = [];
  semaphores = [];
  threads = record { name = 65 ∷ []; locals = 1; code = asserting }
      ∷ record { name = 66 ∷ []; locals = 0; code = storing } ∷ [];
}

-- B goes last, between A's steps, or first
abbrev pub last : List ℕ
last = 0 ∷ 0 ∷ 1 ∷ []

abbrev pub between : List ℕ
between = 0 ∷ 1 ∷ 0 ∷ []

abbrev pub first : List ℕ
first = 1 ∷ 0 ∷ 0 ∷ []

-- all of them, in order
abbrev pub three_schedules : List (List ℕ)
three_schedules = last ∷ between ∷ first ∷ []
