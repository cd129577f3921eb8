use Rattle.walk_cover.proofs.Lengths.{prefixes_cut, all_listed}
use Rattle.walk_cover.proofs.laws.prefixes_are_schedules_cut_short.Goals as goal

pub returns-clause-cut : goal.returns-clause-cut
returns-clause-cut c = λ p bound n fine. prefixes_cut bound p n fine

pub returns-clause-all : goal.returns-clause-all
returns-clause-all c = all_listed
