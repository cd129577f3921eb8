use Rattle.walk_summary.proofs.SumsJoin.{join_tried, join_failed, join_stuck}
use Rattle.walk_summary.proofs.laws.joins_add_up.Goals as goal

pub returns-clause-tried : goal.returns-clause-tried
returns-clause-tried c = join_tried

pub returns-clause-failed : goal.returns-clause-failed
returns-clause-failed c = join_failed

pub returns-clause-stuck : goal.returns-clause-stuck
returns-clause-stuck c = join_stuck
