use Rattle.replay.proofs.PrintedRuns.{pieces_of_printed, steps_of-runs_of, each_run_has_a_step, runs_apart}
use Rattle.replay.proofs.laws.the_longest_runs_are_printed.Goals as goal

pub returns-clause-pieces : goal.returns-clause-pieces
returns-clause-pieces c = pieces_of_printed

pub returns-clause-steps : goal.returns-clause-steps
returns-clause-steps c = steps_of-runs_of

pub returns-clause-some : goal.returns-clause-some
returns-clause-some c = each_run_has_a_step

pub returns-clause-apart : goal.returns-clause-apart
returns-clause-apart c = runs_apart
