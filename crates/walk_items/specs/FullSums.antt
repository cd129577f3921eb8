-- Sums of all schedules under a prefix, whatever their preemptions.
use Rattle.std.specs.Prelude.{List, [], ◌∷◌}
use Rattle.walk_items.specs.{Items.{ItemView, everything}, declared.mode.Mode.Mode}
use Rattle.walk_summary.specs.Summaries.{SummaryView, nothing, sum_of, join}

-- the sum of all schedules of an item, whatever their preemptions; in the mode `Bounded` these are
-- all complete ones that begin with its prefix
abbrev pub full_sum : Mode → ItemView → SummaryView
full_sum mode i = sum_of i.program (everything mode i)

-- these sums of several items as one
abbrev pub full_sums : Mode → List ItemView → SummaryView
full_sums mode [] = nothing
full_sums mode (i ∷ is) = join (full_sum mode i) (full_sums mode is)
