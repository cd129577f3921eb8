use Rattle.std.proofs.Common.{arith, ap, ◌∙◌}
use Rattle.guest_code.specs.Program.{no_thread}
use Rattle.semantics.specs.Machine.{local_run, initial_thread}
use Rattle.semantics.proofs.ListsBuiltInLoops.{built_more, built_all}
use Rattle.semantics.proofs.initial.initial_threads.Goals as goal

pub loop-t-preserved : goal.loop-t-preserved
loop-t-preserved c = built_more (λ th. local_run th.code 0 initial_thread)
    c.args.program.now.threads c.loop-t.t no_thread c.loop-t.threads.items _
    c.take_local_run.new.thread (omega arith) c.loop-t.invariant (c.take_local_run.ensures ∙
    ap (λ code. local_run code 0 initial_thread) c.code.ensures.code) c.in_ok-push.ensures.items

pub returns-clause-threads : goal.returns-clause-threads
returns-clause-threads c = built_all (λ th. local_run th.code 0 initial_thread)
    c.args.program.now.threads c.loop-t.t c.loop-t.threads.items c.loop-t.invariant (omega arith)
