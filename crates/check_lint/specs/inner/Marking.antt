-- How marks of instructions are added.
use Rattle.std.specs.Prelude.{◌≡◌, ℕ, ◌⊎◌, Bool, List, Option, Some}
use Rattle.guest_code.specs.declared.program.Instruction.{Instruction}
use Rattle.check_lint.specs.{Paths.{Goes, after, Marked}, declared.paths.Mark.Mark}
use Rattle.check_lint.specs.declared.paths.Watch.{Watch}

-- marks are added for these, and no others
pub record Grows (old new : List Mark) (More : ℕ → Bool → Type 0) : Type 0 where
  pub kept : (j : ℕ) (b : Bool) → Marked old j b → Marked new j b
  pub there : (j : ℕ) (b : Bool) → More j b → Marked new j b
  pub only : (j : ℕ) (b : Bool) → Marked new j b → Marked old j b ⊎ More j b

-- one mark
abbrev pub AddsOne : List Mark → List Mark → ℕ → Bool → Type 0
AddsOne old new at so = Grows old new (λ j b. (j ≡ at) × (b ≡ so))

-- those that may be next after instruction `at`, if some path goes on
abbrev pub AddsNext : List Mark → List Mark → ℕ → Instruction → Option Bool → Type 0
AddsNext old new at i next = Grows old new (λ j b. Goes i at j × (next ≡ Some b))

-- those that may be next after it in some way that it has
abbrev pub AddsAll : List Mark → List Mark → ℕ → Instruction → Watch → Type 0
AddsAll old new at i w = Grows old new
    (λ j b. (c : Bool) × Marked old at c × Goes i at j × (after w i c ≡ Some b))
