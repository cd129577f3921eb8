use Rattle.runner_workers.proofs.seated_worker.SeatedWorker.walk_and_settle_round.Goals as goal

pub draw_and_walk-exit-requires-clause-kept : goal.draw_and_walk-exit-requires-clause-kept
draw_and_walk-exit-requires-clause-kept g c κs within =
    c.clear.ensures.kept c.args.round.now
