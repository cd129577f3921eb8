-- Ways on through the code of a thread, from where it stands, as its locals allow them.
use Rattle.std.specs.Prelude.{ℕ, ◌<◌, ◌⊎◌, ℤ, Bool, true, false, IsTrue, List, slice_index_or, if◌then◌else◌}
use Rattle.guest_code.specs.declared.program.Instruction.{Instruction}
use Rattle.guest_code.specs.declared.program.Instruction.TheVariants.{SkipIfZero, Skip}
use Rattle.semantics.specs.Expressions.{value_of_expression, is_zero}
use Rattle.check_lint.specs.{Paths.{Goes, Next, Comes}, Uses.expression_reads}
use Rattle.check_lint.specs.declared.paths.Watch.TheVariants.{IsSet}

-- an instruction is a test that reads local r
abbrev pub tests : ℕ → Instruction → Bool
tests r (SkipIfZero e n) = expression_reads r e
tests r _ = false

-- instruction k is a test of a local that some path to it from where the thread stands sets: how it
-- ends isn't known
abbrev pub IsOpen : List Instruction → ℕ → ℕ → Type 0
IsOpen code from k = (r : ℕ) × IsTrue (tests r (slice_index_or code k (Skip 0)))
    × Comes code (IsSet r) from false k true

-- the jump that a test makes where the locals have these values
abbrev pub decided : List ℤ → Instruction → Instruction
decided locals (SkipIfZero e n) =
    Skip (if is_zero (value_of_expression locals e) then n else 0)
decided locals i = i

-- after instruction k instruction j may be next: by the code, and, but for an open test, as the
-- locals have it
abbrev pub GoesOn : List Instruction → ℕ → List ℤ → ℕ → ℕ → Type 0
GoesOn code from locals k j = Next code k j
    × (IsOpen code from k ⊎ Goes (decided locals (slice_index_or code k (Skip 0))) k j)

-- a way leads from where the thread stands to an instruction: one after the other may be next
pub data Way (code : List Instruction) (from : ℕ) (locals : List ℤ) : ℕ → Type 0 where
  here : Way code from locals from
  on : {i j : ℕ} → Way code from locals i → GoesOn code from locals i j → Way code from locals j

-- a way passes an instruction by
abbrev pub WayPast : List Instruction → ℕ → List ℤ → ℕ → Type 0
WayPast code from locals i = (k : ℕ) × (j : ℕ) × (k < i) × (i < j) × Way code from locals k
    × GoesOn code from locals k j
