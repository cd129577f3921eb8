-- The code of a thread as its locals decide it, and how far ways have come.
use Rattle.std.specs.Prelude.{◌≡◌, ℕ, ◌<◌, ◌↔◌, ◌⊎◌, ℤ, Bool, true, false, IsTrue, List, length, slice_index_or}
use Rattle.guest_code.specs.declared.program.Instruction.{Instruction, TheVariants.Skip}
use Rattle.check_lint.specs.{Paths.Comes, declared.paths.Watch.TheVariants.IsSet}
use Rattle.explain_waits.specs.Ways.{tests, decided, IsOpen, GoesOn, Way}

-- instruction k is a test of a local below n that some path to it sets
abbrev pub IsOpenBelow : List Instruction → ℕ → ℕ → ℕ → Type 0
IsOpenBelow code from n k = (r : ℕ) × (r < n) × IsTrue (tests r (slice_index_or code k (Skip 0)))
    × Comes code (IsSet r) from false k true

-- the tests of locals below n are found that are open
pub record AreOpenBelow (code : List Instruction) (from n : ℕ) (marks : List Bool) : Type 0 where
  pub all : length marks ≡ length code
  pub each : (k : ℕ) → k < length code →
      IsTrue (slice_index_or marks k false) ↔ IsOpenBelow code from n k

pub record AreOpen (code : List Instruction) (from : ℕ) (marks : List Bool) : Type 0 where
  pub all : length marks ≡ length code
  pub each : (k : ℕ) → k < length code →
      IsTrue (slice_index_or marks k false) ↔ IsOpen code from k

-- what stands for instruction k where the locals have these values
abbrev pub IsSettledAt : List Instruction → ℕ → List ℤ → ℕ → Instruction → Type 0
IsSettledAt code from locals k i =
    (IsOpen code from k × (i ≡ slice_index_or code k (Skip 0)))
    ⊎ ((¬ IsOpen code from k) × (i ≡ decided locals (slice_index_or code k (Skip 0))))

pub record IsSettled (code : List Instruction) (from : ℕ) (locals : List ℤ)
    (settled : List Instruction) : Type 0 where
  pub all : length settled ≡ length code
  pub each : (k : ℕ) → k < length code →
      IsSettledAt code from locals k (slice_index_or settled k (Skip 0))

-- a way leads past instruction i from one before instruction n
abbrev pub PassesFrom : List Instruction → ℕ → List ℤ → ℕ → ℕ → Type 0
PassesFrom code from locals n i = (k : ℕ) × (j : ℕ) × (k < n) × (i < j) × Way code from locals k
    × GoesOn code from locals k j

-- ways that come to instructions before instruction n go on so far
abbrev pub ReachesTo : List Instruction → ℕ → List ℤ → ℕ → ℕ → Type 0
ReachesTo code from locals n reach =
    (i : ℕ) → (i < reach) ↔ PassesFrom code from locals n i
