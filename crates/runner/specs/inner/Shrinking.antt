-- How a search ends.
use Rattle.std.specs.Prelude.{◌≡◌, ◌<◌, ◌⊎◌, List, [], length, All, Result, Ok, Err}
use Rattle.walk_items.specs.{Items.{ItemView, schedule_count}, declared.mode.Mode.Mode}
use Rattle.book.specs.Books.{BookView}
use Rattle.runner_report.specs.declared.error.ExploreError.{ExploreError}

-- fewer schedules are left, or as many under fewer items
abbrev pub IsSmaller : Mode → List ItemView → List ItemView → Type 0
IsSmaller mode a b = (schedule_count mode a < schedule_count mode b)
    ⊎ ((schedule_count mode a ≡ schedule_count mode b) × (length a < length b))

-- the book is of the same item and mode, a quick one and listing or not as before, and has less
-- left
pub record HasLess (old new : BookView) : Type 0 where
  pub of : new.of ≡ old.of
  pub mode : new.mode ≡ old.mode
  pub quick : new.quick ≡ old.quick
  pub lists : new.lists ≡ old.lists
  pub less : IsSmaller old.mode new.open_items old.open_items

-- the book is as before, and no item of it is this one
pub record IsPassedOver (old : BookView) (item : ItemView) (new : BookView) : Type 0 where
  pub book : new ≡ old
  pub none : All (λ i. i ≡ item → ⊥) old.open_items

-- what the walk of one item does to a book
abbrev pub Went : BookView → ItemView → Result (Unit {0}) ExploreError → BookView → Type 0
Went old item (Err e) new = Unit {0}
Went old item (Ok x) new = HasLess old new ⊎ IsPassedOver old item new

-- what a round does to a book
abbrev pub Goes : BookView → BookView → Type 0
Goes old new = HasLess old new ⊎ ((new ≡ old) × (old.open_items ≡ []))
