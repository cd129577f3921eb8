use Rattle.std.proofs.Common.{arith, subst, slice_get}
use Rattle.semantics.specs.Machine.{action_at}
use Rattle.semantics_machine.{specs.inner.Parts.Stands, proofs.Landings.landed}
use Rattle.semantics_machine.proofs.control.Control.place_thread.Goals as goal

pub returns-clause-lands : goal.returns-clause-lands
returns-clause-lands c = λ p s th objects idle land same.
    landed p s c.args.thread th c.args.at c.args.self.now c.note_status.new.self
    c.register_and_test-on.new.self c.register_and_test-on.result c.with-self.result (c.note_status.ensures.marks idle) objects land
    (λ here apart. subst (λ code. Stands c.note_status.new.self c.register_and_test-on.new.self s
    c.args.thread (action_at c.args.at.status (slice_get code c.args.at.pc)) c.register_and_test-on.result) same
    (c.register_and_test-on.ensures.stands s here apart))
    (omega (arith, c.requires)) c.with-self.ensures.same c.with-self.ensures.others
