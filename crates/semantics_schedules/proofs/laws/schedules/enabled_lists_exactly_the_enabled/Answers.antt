use Rattle.semantics.proofs.WorkFalls.{enabled_below}
use Rattle.semantics_schedules.proofs.SchedulesUnderPrefix.{listed}
use Rattle.semantics_schedules.proofs.laws.schedules.enabled_lists_exactly_the_enabled.Goals as goal

pub returns : goal.returns
returns c = record { listed = listed; there = enabled_below }
