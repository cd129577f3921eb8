-- Whether a list of prefixes covers a program: whose cover it is, or what is wrong with it. A mode
-- with equal threads once counts as the one with all.
use Rattle.std.specs.Prelude.{◌≡◌, ◌≢◌, ◌↔◌, ℕ, true, false, List, [], map, filter, All, Contains}
use Rattle.guest_code.specs.Program.{Program}
use Rattle.semantics_schedules.specs.Schedules.{begins_with}
use Rattle.walk_items.specs.{Items.{ItemView, root_of, everything}, declared.mode.Mode.Mode}
use Rattle.walk_cover.specs.{Covers.{IsCover, plain}, declared.covering.CoverError.CoverError}
use Rattle.walk_cover.specs.declared.covering.CoverError.TheVariants.{Missing, Nested, Unused, OutOfMemory}

-- the items are a cover of the program, and their prefixes are those of the list, in any order
pub record IsCoverBy (mode : Mode) (p : Program) (prefixes : List (List ℕ))
    (items : List ItemView) : Type 0 where
  pub cover : IsCover mode (root_of p) items
  pub listed : (w : List ℕ) →
      Contains (map (λ i. i.prefix) items) w ↔ Contains prefixes w

-- nothing of the list begins with the prefix, and it begins a schedule that lies under nothing of
-- the list
pub record IsMissing (mode : Mode) (p : Program) (prefixes : List (List ℕ)) (prefix : List ℕ) :
    Type 0 where
  pub none : All (λ x. begins_with prefix x ≡ false) prefixes
  pub schedule : List ℕ
  pub is : Contains (everything (plain mode) (root_of p)) schedule
  pub begins : begins_with prefix schedule ≡ true
  pub bare : All (λ x. begins_with x schedule ≡ false) prefixes

-- both are in the list, and the one begins the other
pub record AreNested (prefixes : List (List ℕ)) (outer inner : List ℕ) : Type 0 where
  pub first : Contains prefixes outer
  pub second : Contains prefixes inner
  pub apart : outer ≢ inner
  pub begins : begins_with outer inner ≡ true

-- the prefix is in the list, and begins none of the program's schedules
pub record IsUnused (mode : Mode) (p : Program) (prefixes : List (List ℕ)) (prefix : List ℕ) :
    Type 0 where
  pub listed : Contains prefixes prefix
  pub none : filter (begins_with prefix) (everything (plain mode) (root_of p)) ≡ []

-- what an error says of the list
abbrev pub CoverErrorMeans : Mode → Program → List (List ℕ) → CoverError → Type 0
CoverErrorMeans mode p prefixes (Missing v) = IsMissing mode p prefixes v.items
CoverErrorMeans mode p prefixes (Nested v w) = AreNested prefixes v.items w.items
CoverErrorMeans mode p prefixes (Unused v) = IsUnused mode p prefixes v.items
CoverErrorMeans mode p prefixes OutOfMemory = Unit {0}
