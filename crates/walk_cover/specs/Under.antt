-- The item of the schedules that begin with a prefix. A mode with equal threads once counts as the
-- one with all.
use Rattle.std.specs.Prelude.{◌≡◌, ℕ, List, [], filter}
use Rattle.guest_code.specs.Program.{Program}
use Rattle.semantics.specs.declared.mask.Mask.{Mask}
use Rattle.semantics_schedules.specs.Schedules.{begins_with}
use Rattle.walk_items.specs.{Items.{ItemView, root_of, everything}, Walks.{IsBelow, HasItsOf}}
use Rattle.walk_items.specs.declared.mode.Mode.{Mode, TheVariants.Reduced}
use Rattle.walk_cover.specs.Covers.{plain}

-- the item of the program's schedules that begin with the prefix
pub record IsUnder (mode : Mode) (p : Program) (prefix : List ℕ) (i : ItemView) : Type 0 where
  pub is : i.prefix ≡ prefix
  pub below : IsBelow (root_of p) i
  pub own : HasItsOf (plain mode) (root_of p) i

-- none of the program's schedules, whatever its preemptions, begins with the prefix
abbrev pub HasNoneUnder : Mode → Program → List ℕ → Type 0
HasNoneUnder mode p prefix =
    filter (begins_with prefix) (everything (plain mode) (root_of p)) ≡ []

-- these threads sleep after the prefix
abbrev pub IsAsleepAfter : Program → List ℕ → Mask → Type 0
IsAsleepAfter p prefix mask =
    IsUnder Reduced p prefix (record { program = p; prefix = prefix; mask = mask })
