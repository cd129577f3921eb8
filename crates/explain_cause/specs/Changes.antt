-- Which steps change a variable.
use Rattle.std.specs.Prelude.{◌≡◌, ℕ, ◌+◌, ◌<◌, ◌≤◌, nat_eq, Bool, true, false, not, ◌&&◌, List, length, slice_index_or}
use Rattle.std.specs.Ordering.{int_eq}
use Rattle.explain_run.specs.declared.object.Object.{Object, TheVariants.Variable}
use Rattle.explain_run.specs.declared.object.ObjectState.{ObjectState, TheVariants.Value}
use Rattle.explain_run.specs.declared.step.Step.{Step}

-- a step changes variable x: it leaves another value there than it found
abbrev pub changes_to : ℕ → Object → ObjectState → ObjectState → Bool
changes_to x (Variable y) (Value v) (Value w) = nat_eq y x && not (int_eq v w)
changes_to x _ _ _ = false

abbrev pub changes : ℕ → Step → Bool
changes x s = changes_to x s.object s.old s.new

-- none of these steps from place k on up to place j, without that one, changes it
abbrev pub IsUnchanged : List Step → ℕ → ℕ → ℕ → Type 0
IsUnchanged steps x k j = (i : ℕ) (d : Step) → k ≤ i → i < j → i < length steps →
    changes x (slice_index_or steps i d) ≡ false

-- the step at place k changes it
pub record IsChangedAt (steps : List Step) (x k : ℕ) : Type 0 where
  pub inside : k < length steps
  pub is : (d : Step) → changes x (slice_index_or steps k d) ≡ true

-- the one at place k is the last before place `at` that does
pub record IsChangedBefore (steps : List Step) (x at k : ℕ) : Type 0 where
  pub before : k < at
  pub changed : IsChangedAt steps x k
  pub last : IsUnchanged steps x (k + 1) at

-- the one at place k is the first from place `from` on that does
pub record IsChangedFrom (steps : List Step) (x from k : ℕ) : Type 0 where
  pub not_before : from ≤ k
  pub changed : IsChangedAt steps x k
  pub first : IsUnchanged steps x from k
