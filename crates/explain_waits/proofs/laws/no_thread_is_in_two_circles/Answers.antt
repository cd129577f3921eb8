use Rattle.explain_waits.proofs.CirclesTold.{same_circle}
use Rattle.explain_waits.proofs.laws.no_thread_is_in_two_circles.Goals as goal

pub returns : goal.returns
returns c = λ p told waits c d t tells one other in-c in-d.
    same_circle p told waits.circles.items c d t tells.circles.each one other in-c in-d
