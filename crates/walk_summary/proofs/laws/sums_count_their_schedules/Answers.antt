use Rattle.walk_summary.proofs.SumsJoin.{tried_is, failed_is, stuck_is}
use Rattle.walk_summary.proofs.laws.sums_count_their_schedules.Goals as goal

pub returns-clause-tried : goal.returns-clause-tried
returns-clause-tried c = tried_is

pub returns-clause-failed : goal.returns-clause-failed
returns-clause-failed c = failed_is

pub returns-clause-stuck : goal.returns-clause-stuck
returns-clause-stuck c = stuck_is
