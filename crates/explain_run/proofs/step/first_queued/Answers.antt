use Rattle.std.proofs.Common.{◌∙◌, sym}
use Rattle.semantics.specs.Machine.{queue_of}
use Rattle.explain_run.proofs.Taken.{taken_more, taken_all}
use Rattle.explain_run.proofs.step.first_queued.Goals as goal

pub loop-place-preserved : goal.loop-place-preserved
loop-place-preserved c =
    taken_more (queue_of c.args.state.now c.args.condition) c.loop-place.queued.items _
    c.loop-place.place c.in-Some.thread c.loop-place.invariant
    (sym c.queued.ensures ∙ c.in-Some.is) c.in_ok-push-in-Some.ensures.items

pub returns-in-None : goal.returns-in-None
returns-in-None c =
    taken_all (queue_of c.args.state.now c.args.condition) c.loop-place.queued.items
    c.loop-place.place c.args.most c.loop-place.invariant (sym c.queued.ensures ∙ c.in-None.is)
    c.loop-place-test.true
