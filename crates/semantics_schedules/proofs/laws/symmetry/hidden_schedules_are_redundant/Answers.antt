use Rattle.semantics_schedules.proofs.EqualThreadsOnce.{hidden_met, hidden_met_within}
use Rattle.semantics_schedules.proofs.laws.symmetry.hidden_schedules_are_redundant.Goals as goal

pub returns : goal.returns
returns c = record {
  unbounded = λ p H s last Z w hides h. hidden_met p H hides s last Z w h;
  within = λ p H s last w hides h. hidden_met_within p H hides s last w h;
}
