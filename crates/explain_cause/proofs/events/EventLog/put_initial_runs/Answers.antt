use Rattle.std.proofs.Common.{suc, arith}
use Rattle.explain_cause.proofs.Runs.{opened}
use Rattle.explain_cause.proofs.events.EventLog.put_initial_runs.Goals as goal

pub loop-thread-preserved : goal.loop-thread-preserved
loop-thread-preserved c = λ steps left e. opened c.args.program.now steps c.loop-thread.thread left
    c.code.result.now c.loop-thread.self.events.items c.put_local_run.new.self.events.items
    c.loop-thread.self.locals c.put_local_run.new.self.locals _ c.code.ensures.code
    c.in_ok-put_local_run.ensures.events c.in_ok-put_local_run.ensures.locals
    (c.loop-thread.invariant steps (suc left) (omega (arith, e)))

pub returns : goal.returns
returns c = λ steps. c.loop-thread.invariant steps 0 (omega arith)
