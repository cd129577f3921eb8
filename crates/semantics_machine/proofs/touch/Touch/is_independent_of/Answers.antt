use Rattle.semantics_machine.proofs.TouchBits.{steps_apart}
use Rattle.semantics_machine.proofs.touch.Touch.is_independent_of.Goals as goal

pub returns : goal.returns
returns c = λ a b h k. steps_apart c.args.self c.args.other a b h k
