use Rattle.std.proofs.Common.{◌∙◌, sym}
use Rattle.semantics_schedules.proofs.IndependentStepsCommute.{still_enabled, independent-swap}
use Rattle.semantics_schedules.proofs.laws.independence.independent_stay_enabled.Goals as goal

pub returns : goal.returns
returns c = record {
  second = still_enabled;
  first = λ p s t v h k i. still_enabled p s v t k h (sym (independent-swap p s t v) ∙ i);
}
