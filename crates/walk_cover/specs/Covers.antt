-- Covers: items under which each schedule of another item lies once.
use Rattle.std.specs.Prelude.{◌≡◌, ℕ, List, All, Contains}
use Rattle.walk_items.specs.{Items.{ItemView, everything, covers}, Walks.{IsBelow, HasItsOf}}
use Rattle.walk_items.specs.declared.mode.Mode.{Mode, TheVariants.{Bounded, Reduced}}
use Rattle.walk_items.specs.declared.mode.Mode.TheVariants.{BoundedOnce, ReducedOnce}

-- the mode with all threads: covers know nothing of equal ones
abbrev pub plain : Mode → Mode
plain (Bounded bound) = Bounded bound
plain Reduced = Reduced
plain (BoundedOnce bound) = Bounded bound
plain ReducedOnce = Reduced

-- the items cover another one: each lies under it, and has those of its schedules that begin with
-- its own prefix; and each of its schedules, whatever its preemptions, begins with the prefix of
-- exactly one of them. A mode with equal threads once counts as the one with all
pub record IsCover (mode : Mode) (item : ItemView) (items : List ItemView) : Type 0 where
  pub below : All (IsBelow item) items
  pub own : All (HasItsOf (plain mode) item) items
  pub once : (w : List ℕ) → Contains (everything (plain mode) item) w → covers w items ≡ 1
