-- Equal threads once: the modes where of equal threads only the lowest is tried, and that a sum of
-- what they leave says the same.
use Rattle.std.specs.Prelude.{◌≡◌, ℕ, Bool, true, false}
use Rattle.walk_items.specs.declared.mode.Mode.{Mode, TheVariants.{Bounded, Reduced}}
use Rattle.walk_items.specs.declared.mode.Mode.TheVariants.{BoundedOnce, ReducedOnce}
use Rattle.walk_summary.specs.Summaries.{SummaryView}

-- the modes at a bound: with equal threads once, and without
abbrev pub up_to : Bool → ℕ → Mode
up_to false bound = Bounded bound
up_to true bound = BoundedOnce bound

-- those that sleep sets prune
abbrev pub pruned : Bool → Mode
pruned false = Reduced
pruned true = ReducedOnce

-- a mode, with equal threads once
abbrev pub once_of : Mode → Mode
once_of (Bounded bound) = BoundedOnce bound
once_of Reduced = ReducedOnce
once_of (BoundedOnce bound) = BoundedOnce bound
once_of ReducedOnce = ReducedOnce

-- a sum of some schedules says what the sum of all says, but for their number: the first bad one,
-- the end views, and whether one is beyond the bound
pub record SaysTheSame (few all : SummaryView) : Type 0 where
  pub first_bad : few.first_bad ≡ all.first_bad
  pub ends : few.ends ≡ all.ends
  pub beyond : few.beyond ≡ all.beyond
