use Rattle.walk_cover.proofs.Covers.{complete_once, pruned_once}
use Rattle.walk_cover.proofs.laws.each_schedule_begins_with_one_prefix.Goals as goal

pub returns-clause-complete : goal.returns-clause-complete
returns-clause-complete c = complete_once

pub returns-clause-pruned : goal.returns-clause-pruned
returns-clause-pruned c = pruned_once
