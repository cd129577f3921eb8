use Rattle.walk_summary.proofs.SumsJoin.{one_done, one_failed, one_stuck}
use Rattle.walk_summary.proofs.laws.sum_of_one_schedule.Goals as goal

pub returns-clause-done : goal.returns-clause-done
returns-clause-done c = one_done

pub returns-clause-failed : goal.returns-clause-failed
returns-clause-failed c = one_failed

pub returns-clause-stuck : goal.returns-clause-stuck
returns-clause-stuck c = one_stuck
