use Rattle.replay.proofs.SpelledOnce.{spelt_once}
use Rattle.replay.proofs.laws.a_text_spells_one_schedule.Goals as goal

pub returns : goal.returns
returns c = spelt_once
