use Rattle.walk_summary.proofs.SumsJoin.{join_beyond, join_first_bad, join_sorted, join_members}
use Rattle.walk_summary.proofs.laws.joins_have_both.Goals as goal

pub returns-clause-beyond : goal.returns-clause-beyond
returns-clause-beyond c = join_beyond

pub returns-clause-first_bad : goal.returns-clause-first_bad
returns-clause-first_bad c = join_first_bad

pub returns-clause-sorted : goal.returns-clause-sorted
returns-clause-sorted c = join_sorted

pub returns-clause-members : goal.returns-clause-members
returns-clause-members c = join_members
