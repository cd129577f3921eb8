use Rattle.walk_summary.proofs.SumsJoin.{sum_sorted, sum_members}
use Rattle.walk_summary.proofs.laws.views_are_sorted.Goals as goal

pub returns-clause-sorted : goal.returns-clause-sorted
returns-clause-sorted c = sum_sorted

pub returns-clause-members : goal.returns-clause-members
returns-clause-members c = sum_members
