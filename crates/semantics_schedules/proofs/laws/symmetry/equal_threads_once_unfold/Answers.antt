use Rattle.semantics_schedules.proofs.EqualThreadsOnce.{complete_once-terminal, complete_once-more, reduced_once-terminal, reduced_once-more}
use Rattle.semantics_schedules.proofs.laws.symmetry.equal_threads_once_unfold.Goals as goal

pub returns : goal.returns
returns c = record {
  terminal = complete_once-terminal;
  more = complete_once-more;
  reduced_terminal = reduced_once-terminal;
  reduced_more = reduced_once-more;
}
