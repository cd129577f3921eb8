use Rattle.walk_items.proofs.Unhidden.{once_terminal, once_more}
use Rattle.walk_items.proofs.laws.equal_threads_once_unfold.Goals as goal

pub returns : goal.returns
returns c = record { terminal = once_terminal; more = once_more }
