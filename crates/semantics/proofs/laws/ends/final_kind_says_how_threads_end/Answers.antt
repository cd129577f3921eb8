use Rattle.semantics.proofs.FinalKindMeans.{failed_means, done_means, stuck_means}
use Rattle.semantics.proofs.laws.ends.final_kind_says_how_threads_end.Goals as goal

pub returns : goal.returns
returns c = record { failed = failed_means; done = done_means; stuck = stuck_means }
