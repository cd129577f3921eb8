use Rattle.semantics_schedules.proofs.RenamedStates.{enabled_renamed, step_renamed, complete_renamed, preemptions_renamed, end_renamed}
use Rattle.semantics_schedules.proofs.laws.symmetry.renamed_threads_run_alike.Goals as goal

pub returns : goal.returns
returns c = record {
  enabled = λ p f s r t g e. enabled_renamed p f g s r e t;
  step = λ p f s r t g e. step_renamed p f g s r e t;
  complete = λ p f s r w g e. complete_renamed p f g w s r e;
  preemptions = λ p f s r last w g e. preemptions_renamed p f g w s r e last;
  end = λ p f s r w g e. end_renamed p f g w s r e;
}
