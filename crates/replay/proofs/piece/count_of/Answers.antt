use Rattle.replay.proofs.NumberTexts.{utf8_numeral}
use Rattle.replay.proofs.piece.count_of.Goals as goal

pub returns-in_default : goal.returns-in_default
returns-in_default c n s = c.in_default.ensures.cases.0 (utf8_numeral _ s.digits)
