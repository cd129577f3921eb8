-- What a walk found, and what it adds to what others found.
use Rattle.std.specs.Prelude.{◌≡◌, ◌≤◌, ◌<◌, ℕ, [], ◌++◌}
use Rattle.walk_summary.specs.Summaries.{join}
use Rattle.walk_items.specs.Items.{ItemView}
use Rattle.walk_items.specs.Walks.{WalkView, IsWalked, IsPastBound, walk_view, walk_past_bound, items_at, listed_if}
use Rattle.walk_items.specs.declared.mode.Mode.{Mode}
use Rattle.walk.specs.declared.found.Found.{Found}

-- what a walk of an item in a mode is that found this
abbrev pub found_walk : Mode → ItemView → Found → WalkView
found_walk mode item found = walk_view mode item found.part found.rest found.deferred

-- a walk of the item in the mode, up to a quota, was added to what was found before
pub record HasAdded (mode : Mode) (item : ItemView) (quota : ℕ) (old new : Found) : Type 0 where
  pub walk : WalkView
  pub in_mode : walk.mode ≡ mode
  pub of : walk.item ≡ item
  pub walked : IsWalked walk
  pub few : walk.part.tried ≤ quota
  pub all : walk.part.tried < quota → walk.rest ≡ []
  pub past : IsPastBound mode item → walk ≡ walk_past_bound mode item
  pub part : new.part ≡ join old.part walk.part
  pub rest : new.rest.items ≡ old.rest.items ++ walk.rest
  pub deferred : items_at item.program new.deferred
      ≡ items_at item.program old.deferred ++ listed_if old.lists walk.deferred
  pub lists : new.lists ≡ old.lists
