use Rattle.semantics_schedules.proofs.KeptSchedules.{reduced_members, kept_complete}
use Rattle.semantics_schedules.proofs.laws.independence.reduced_are_the_kept.Goals as goal

pub returns : goal.returns
returns c = record { members = reduced_members; complete = kept_complete }
