use Rattle.runner_joining.proofs.Found.{found_honest}
use Rattle.runner_joining.proofs.laws.what_is_found_is_honest.Goals as goal

pub returns : goal.returns
returns c = λ p search parts h k d l _. found_honest p _ (h k d l)
