use Rattle.semantics.proofs.VariableSteps.{hit_value, hit_local, miss_variables, miss_local}
use Rattle.semantics.proofs.laws.steps.cas_is_atomic.Goals as goal

pub returns : goal.returns
returns c = record {
  hit = hit_value;
  hit_local = hit_local;
  miss = miss_variables;
  miss_local = miss_local;
}
