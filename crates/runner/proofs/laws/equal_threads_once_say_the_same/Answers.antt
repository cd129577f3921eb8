use Rattle.runner.proofs.Agreement.{say_the_same}
use Rattle.runner.proofs.laws.equal_threads_once_say_the_same.Goals as goal

pub returns : goal.returns
returns c = say_the_same
