use Rattle.replay.proofs.SpelledOnce.{one_error}
use Rattle.replay.proofs.laws.one_error_fits_a_text.Goals as goal

pub returns : goal.returns
returns c = one_error
