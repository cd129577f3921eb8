use Rattle.runner_workers.proofs.seated_worker.SeatedWorker.settle.Goals as goal

pub returns-then-not-note_done-clause-kept : goal.returns-then-not-note_done-clause-kept
returns-then-not-note_done-clause-kept g c = c.settle-settled.ensures.kept c.args.round.now

pub returns-in_err-settled-clause-kept : goal.returns-in_err-settled-clause-kept
returns-in_err-settled-clause-kept g c = c.settle-settled.ensures.kept c.args.round.now

pub returns-clause-kept : goal.returns-clause-kept
returns-clause-kept g c = c.settle-settled.ensures.kept c.args.round.now
