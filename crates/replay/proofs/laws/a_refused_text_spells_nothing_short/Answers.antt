use Rattle.replay.proofs.SpelledOnce.{bad_spells_nothing, long_spells_long}
use Rattle.replay.proofs.laws.a_refused_text_spells_nothing_short.Goals as goal

pub returns-clause-bad : goal.returns-clause-bad
returns-clause-bad c = bad_spells_nothing

pub returns-clause-long : goal.returns-clause-long
returns-clause-long c = long_spells_long
