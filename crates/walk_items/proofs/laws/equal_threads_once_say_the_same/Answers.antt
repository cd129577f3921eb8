use Rattle.walk_items.proofs.Once.{represents_root, says_the_same}
use Rattle.walk_items.proofs.laws.equal_threads_once_say_the_same.Goals as goal

pub returns : goal.returns
returns c = record { own = λ p mode. (represents_root p mode).own; same = says_the_same }
