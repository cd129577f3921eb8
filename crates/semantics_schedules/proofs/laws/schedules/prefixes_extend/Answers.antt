use Rattle.semantics_schedules.proofs.PrefixesExtend.{extends, extends_within}
use Rattle.semantics_schedules.proofs.laws.schedules.prefixes_extend.Goals as goal

pub returns : goal.returns
returns c = record { as_many = extends; within = extends_within }
