-- A program as a value, and its schedules written out by hand: two threads that each load a
-- variable, add 1 and store the sum, `var x; thread A { load r x; set r r + 1; store x r; } thread
-- B { load r x; set r r + 1; store x r; }`.
use Rattle.std.specs.Prelude.{ℕ, ℤ, pos, List, [], ◌∷◌}
use Rattle.guest_syntax.specs.declared.tree.Op.TheVariants.{Add as plus}
use Rattle.guest_code.specs.{Program.Program, declared.program.Expression.TheVariants.Both}
use Rattle.guest_code.specs.declared.program.Instruction.{Instruction}
use Rattle.guest_code.specs.declared.program.Instruction.TheVariants.{Load, Store, Set}
use Rattle.guest_code.specs.declared.program.Value.TheVariants.{Local, Literal}
use Rattle.semantics.specs.{View.View, declared.view.Kind.TheVariants.Done}

-- load x into local 0, add 1 to it, store it into x
abbrev pub increment : List Instruction
increment = Load 0 0 ∷ Set 0 (Both (Local 0) plus (Literal (pos 1))) ∷ Store 0 (Local 0) ∷ []

-- the names are `x`, `A` and `B`
abbrev pub increments : Program
increments = record {
  variables = record { name = 120 ∷ []; opening = pos 0 } ∷ [];
  mutexes = [];
  conditions = [];
  semaphores = [];
  threads = record { name = 65 ∷ []; locals = 1; code = increment }
      ∷ record { name = 66 ∷ []; locals = 1; code = increment } ∷ [];
}

-- the six ways to take two steps of each thread, in order
abbrev pub six_schedules : List (List ℕ)
six_schedules =
    (0 ∷ 0 ∷ 1 ∷ 1 ∷ [])
    ∷ (0 ∷ 1 ∷ 0 ∷ 1 ∷ [])
    ∷ (0 ∷ 1 ∷ 1 ∷ 0 ∷ [])
    ∷ (1 ∷ 0 ∷ 0 ∷ 1 ∷ [])
    ∷ (1 ∷ 0 ∷ 1 ∷ 0 ∷ [])
    ∷ (1 ∷ 1 ∷ 0 ∷ 0 ∷ [])
    ∷ []

-- the four that sleep sets keep: of schedules that differ in the order of the two loads alone, the
-- first
abbrev pub four_schedules : List (List ℕ)
four_schedules =
    (0 ∷ 0 ∷ 1 ∷ 1 ∷ [])
    ∷ (0 ∷ 1 ∷ 0 ∷ 1 ∷ [])
    ∷ (0 ∷ 1 ∷ 1 ∷ 0 ∷ [])
    ∷ (1 ∷ 1 ∷ 0 ∷ 0 ∷ [])
    ∷ []

-- both threads ended, and x has this value
abbrev pub done_with : ℤ → View
done_with x = record { kind = Done; vars = x ∷ [] }
