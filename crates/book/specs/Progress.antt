-- How far a search is, of the book that it has after a round.
use Rattle.std.specs.Prelude.{◌≡◌, ℕ, ◌+◌, Option, Some, None, length}
use Rattle.walk_items.specs.declared.mode.Mode.{Mode, TheVariants.{Bounded, Reduced, BoundedOnce, ReducedOnce}}
use Rattle.walk_summary.specs.Summaries.{cut}
use Rattle.book.specs.{Books.BookView, declared.progress.Progress.Progress}

-- the bound of a mode, if it has one
abbrev pub mode_bound : Mode → Option ℕ
mode_bound (Bounded bound) = Some bound
mode_bound Reduced = None
mode_bound (BoundedOnce bound) = Some bound
mode_bound ReducedOnce = None

-- the book's bound, and how many schedules are counted in it, how many of them are bad, and how many
-- items are open and wait for the next bound, and whether these are listed
pub record IsProgressOf (b : BookView) (p : Progress) : Type 0 where
  pub bound : p.bound ≡ mode_bound b.mode
  pub tried : p.tried ≡ b.finished.tried
  pub bad : p.bad ≡ cut (b.finished.failed + b.finished.stuck)
  pub open_items : p.open_items ≡ length b.open_items
  pub deferred : p.deferred ≡ length b.deferred
  pub lists : p.lists ≡ b.lists
