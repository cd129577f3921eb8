use Rattle.runner_rounds.proofs.worker.Worker.walk.Goals as goal

pub returns-in-Err-clause-kept : goal.returns-in-Err-clause-kept
returns-in-Err-clause-kept c = c.clear.ensures.kept c.args.round.now
