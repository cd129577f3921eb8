use Rattle.guest_syntax.proofs.TreeOfText.{one_tree}
use Rattle.guest_syntax.proofs.laws.one_tree.Goals as goal

pub returns : goal.returns
returns c = λ text t u s r. one_tree text t u s r
