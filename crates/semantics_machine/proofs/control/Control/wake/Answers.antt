use Rattle.std.proofs.Common.{refl}
use Rattle.semantics.specs.declared.state.Status.TheVariants.{Woken}
use Rattle.semantics.specs.Machine.{thread_at, with_status}
use Rattle.semantics_machine.proofs.Landings.{waiting_is_idle, called}
use Rattle.semantics_machine.proofs.control.Control.wake.Goals as goal

pub returns-clause-shows : goal.returns-clause-shows
returns-clause-shows c = λ s t n shows apart waits there.
    let p = c.args.program.now in
    let h = shows.threads c.args.thread apart in
    let th = with_status (thread_at s c.args.thread) Woken in
    called p s t c.args.thread th c.args.self.now c.place_thread.new.self shows apart there
    (c.place_thread.ensures.lands p s th shows.objects
    (waiting_is_idle p s c.args.thread n c.args.self.now h waits)
    (record { pc = h.place; status = refl }) c.code.ensures.code)
