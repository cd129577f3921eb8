use Rattle.walk_summary.proofs.SumsJoin.{cut_below, cut_above}
use Rattle.walk_summary.proofs.laws.counts_stop_at_the_greatest.Goals as goal

pub returns-clause-exact : goal.returns-clause-exact
returns-clause-exact c = cut_below

pub returns-clause-stopped : goal.returns-clause-stopped
returns-clause-stopped c = cut_above
