use Rattle.std.proofs.Common.{◌≤◌, ap, subst, sym}
use Rattle.guest_code.specs.Program.{Program, Thread, no_thread}
use Rattle.guest_code.{specs.declared.limits.TheConstants.LOCALS, proofs.ThreadSeen.thread_read}
use Rattle.guest_code.proofs.program.Program.locals.Goals as goal

pub returns-clause-few : goal.returns-clause-few
returns-clause-few c =
    let read = thread_read c.self.inside.threads.items c.args.self.now c.args.thread
    c.index.result.now (ap (λ (p : Program). p.threads) c.self.view_is) c.requires
    c.index.ensures in
    subst (λ (t : Thread). t.locals ≤ LOCALS) (sym read.1)
    (c.self.invariant.locals c.args.thread no_thread read.0)
