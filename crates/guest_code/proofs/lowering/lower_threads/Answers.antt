use Rattle.guest_code.proofs.ThreadLocals.{locals_at}
use Rattle.guest_code.proofs.lowering.lower_threads.Goals as goal

pub lower_thread-requires-clause-locals : goal.lower_thread-requires-clause-locals
lower_thread-requires-clause-locals c = locals_at c.args.locals.now c.args.threads.now c.loop-i.i
    c.index-locals-i.result c.index-threads-i.result c.requires.locals c.loop-i-test.true
    c.index-locals-i.is c.index-threads-i.is
