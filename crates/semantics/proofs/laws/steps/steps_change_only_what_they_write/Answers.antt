use Rattle.semantics.proofs.StepFrame.{step_variables, step_mutexes, step_conditions, step_semaphores}
use Rattle.semantics.proofs.laws.steps.steps_change_only_what_they_write.Goals as goal

pub returns : goal.returns
returns c = record {
  variables = step_variables;
  mutexes = step_mutexes;
  conditions = step_conditions;
  semaphores = step_semaphores;
}
