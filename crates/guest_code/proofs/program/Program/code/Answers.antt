use Rattle.std.proofs.Common.{ap, subst, ◌∙◌}
use Rattle.guest_code.specs.Program.{Program, Thread, IsValidCode, no_thread}
use Rattle.guest_code.proofs.ThreadSeen.{thread_read}
use Rattle.guest_code.proofs.program.Program.code.Goals as goal

pub returns-clause-valid : goal.returns-clause-valid
returns-clause-valid c =
    let read = thread_read c.self.inside.threads.items c.args.self.now c.args.thread
    c.index.result.now (ap (λ (p : Program). p.threads) c.self.view_is) c.requires
    c.index.ensures in
    let same = c.as_slice.ensures.value ∙ ap (λ (t : Thread). t.code) read.1 in
    subst (λ (p : Program). IsValidCode p c.as_slice.result.now) c.self.view_is
    (rw same (c.self.invariant.codes c.args.thread no_thread read.0))
