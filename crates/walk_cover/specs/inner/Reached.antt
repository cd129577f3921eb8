-- How far prefixes of a list are gone towards.
use Rattle.std.specs.Prelude.{◌≡◌, ℕ, true, false, List, [], ◌∷◌, map, filter, All, Contains}
use Rattle.guest_code.specs.Program.{Program}
use Rattle.semantics_schedules.specs.Schedules.{begins_with}
use Rattle.walk_items.specs.{Items.{ItemView, root_of, everything}, declared.mode.Mode.Mode}
use Rattle.walk_cover.specs.{Covers.{IsCover, plain}, declared.covering.CoverError.CoverError}
use Rattle.walk_cover.specs.declared.covering.CoverError.TheVariants.{Missing, Nested, Unused, OutOfMemory}

-- no prefix of the list begins the item's, unless it is the item's own
abbrev pub IsFirst : List (List ℕ) → ItemView → Type 0
IsFirst prefixes i = All (λ x. begins_with x i.prefix ≡ true → x ≡ i.prefix) prefixes

-- a cover of the program by items whose prefixes are listed, and none shorter
pub record IsReached (mode : Mode) (p : Program) (prefixes : List (List ℕ))
    (items : List ItemView) : Type 0 where
  pub cover : IsCover mode (root_of p) items
  pub listed : All (λ i. Contains prefixes i.prefix) items
  pub first : All (IsFirst prefixes) items

-- of the program's schedules the item's prefix alone begins with it, and it lies under nothing of
-- the list
pub record IsBare (mode : Mode) (p : Program) (prefixes : List (List ℕ)) (i : ItemView) :
    Type 0 where
  pub only : filter (begins_with i.prefix) (everything (plain mode) (root_of p)) ≡ i.prefix ∷ []
  pub bare : All (λ x. begins_with x i.prefix ≡ false) prefixes

-- why the prefix is that of none of the items: that of one begins it, or none does
abbrev pub IsOther : List ItemView → List ℕ → CoverError → Type 0
IsOther items prefix (Missing v) = ⊥
IsOther items prefix (Nested v w) = (w.items ≡ prefix)
    × Contains (map (λ i. i.prefix) items) v.items × (begins_with v.items prefix ≡ true)
IsOther items prefix (Unused v) = (v.items ≡ prefix)
    × All (λ i. begins_with i.prefix prefix ≡ false) items
IsOther items prefix OutOfMemory = ⊥
