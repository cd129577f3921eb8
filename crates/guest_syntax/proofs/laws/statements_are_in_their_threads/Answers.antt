use Rattle.guest_syntax.proofs.StatementsInThreads.{are_in_threads}
use Rattle.guest_syntax.proofs.laws.statements_are_in_their_threads.Goals as goal

pub returns : goal.returns
returns c = λ text t s. are_in_threads text t s
