use Rattle.runner.proofs.Unfinished.{unfinished}
use Rattle.runner.proofs.laws.unfinished_searches_go_on.Goals as goal

pub returns : goal.returns
returns c = unfinished
