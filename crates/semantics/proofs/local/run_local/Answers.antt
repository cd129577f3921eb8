use Rattle.std.proofs.Common.{◌∙◌}
use Rattle.semantics.proofs.LocalRuns.{turn_run}
use Rattle.semantics.proofs.local.run_local.Goals as goal

pub loop-next-preserved : goal.loop-next-preserved
loop-next-preserved c = record {
  within = c.in-Runs.ensures.further.1;
  same = turn_run c.args.code.now
      (record { pc = c.loop-next.at; locals = c.loop-next.locals; status = c.args.status })
      c.run_if_local.new.locals _ c.in-Runs.ensures.turn c.in-Runs.ensures.locals
      ∙ c.loop-next.invariant.same;
}
