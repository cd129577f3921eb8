-- What a search under a prefix finds.
use Rattle.std.specs.Prelude.{◌≡◌, ◌⊎◌, ℕ, false, List, [], ◌∷◌, Contains, None}
use Rattle.guest_code.specs.Program.{Program}
use Rattle.walk_summary.specs.Summaries.{nothing}
use Rattle.walk_items.specs.Items.{ItemView}
use Rattle.walk_cover.specs.Under.{IsUnder, HasNoneUnder}
use Rattle.runner_report.specs.declared.{level.Level.Level, options.Options.Options}
use Rattle.runner.specs.Levels.{AreLevels}
use Rattle.runner_parts.specs.declared.part.Part.{Part}
use Rattle.runner_joining.specs.Parts.{last_mode}

-- the level of a prefix that no schedule is under
abbrev pub empty_level : Level
empty_level = record { bound = None; summary = nothing; cause = None }

-- the levels of the item of a prefix; where no schedule that sleep sets leave begins with it, one
-- of nothing
abbrev pub AreLevelsUnder : Program → Options → List ℕ → List Level → Type 0
AreLevelsUnder p o prefix levels =
    ((i : ItemView) × IsUnder (last_mode o.search) p prefix i
    × AreLevels false o.search o.limit i levels)
    ⊎ (HasNoneUnder (last_mode o.search) p prefix × (levels ≡ empty_level ∷ []))

-- the part has a level of a search under its prefix
pub record IsFound (p : Program) (x : Part) : Type 0 where
  pub options : Options
  pub levels : List Level
  pub are : AreLevelsUnder p options x.under.items levels
  pub one : Contains levels x.level
