use Rattle.std.proofs.Common.{false, sym, ◌∙◌}
use Rattle.guest_code.proofs.NameLookup.{thread_at}
use Rattle.guest_code.proofs.check.kind_in_threads.Goals as goal

pub loop-thread-preserved : goal.loop-thread-preserved
loop-thread-preserved c =
    let e = thread_at c.args.threads.now c.loop-thread.thread-index c.args.name.now
    c.thread-item.result c.loop-thread-test.true c.thread-item.is false
    (rw c.as_slice.ensures.value at (sym c.if-eq.ensures)) in
    sym e ∙ c.loop-thread.invariant
