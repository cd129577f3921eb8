use Rattle.semantics_schedules.proofs.BranchesRun.{taken_branch, other_branch, no_step, their_end}
use Rattle.semantics_schedules.proofs.laws.worked.branches_run_at_once.Goals as goal

pub returns : goal.returns
returns c = record {
  taken = taken_branch;
  other = other_branch;
  complete = no_step;
  end = their_end;
}
