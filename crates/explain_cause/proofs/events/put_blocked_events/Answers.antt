use Rattle.std.proofs.Common.{◌∙◌, ◌++◌, ◌+◌, suc, sym, ap, arith, append_assoc}
use Rattle.std.proofs.lemmas.List.{append-nil}
use Rattle.explain_cause.specs.Course.{blocked_at, blocked_from, listed}
use Rattle.explain_cause.proofs.events.put_blocked_events.Goals as goal

pub loop-thread-preserved : goal.loop-thread-preserved
loop-thread-preserved c = λ left e.
    let p = c.args.program.now in
    let rest = blocked_from p c.args.holders.now c.args.thread_states.now
    (c.loop-thread.thread + 1) left in
    ap (λ es. es ++ rest) (c.in_ok-push_if_some.ensures
    ∙ ap (λ o. c.loop-thread.events.items ++ listed o) c.blocked_event.ensures)
    ∙ (append_assoc c.loop-thread.events.items (listed (blocked_at p c.args.holders.now
    c.args.thread_states.now c.loop-thread.thread)) rest
    ∙ c.loop-thread.invariant (suc left) (omega (arith, e)))

pub returns : goal.returns
returns c = sym (append-nil c.loop-thread.events.items) ∙ c.loop-thread.invariant 0 (omega arith)
