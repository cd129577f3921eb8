use Rattle.std.proofs.Common.{ap, sym, subst}
use Rattle.semantics.specs.declared.state.MutexAction.TheVariants.{Retake as Retakes}
use Rattle.semantics.specs.Machine.{retake_of}
use Rattle.semantics_machine.specs.inner.Parts.{Stands}
use Rattle.semantics_machine.proofs.control.Control.register_retake.Goals as goal

pub returns-in-Wait-clause-stands : goal.returns-in-Wait-clause-stands
returns-in-Wait-clause-stands c = λ s objects apart.
    subst (λ a. Stands c.args.self.now c.register_at_mutex.new.self s c.args.thread a
    c.register_at_mutex.result)
    (ap retake_of (sym c.in-Wait.is))
    (c.register_at_mutex.ensures.stands s Retakes objects apart tt)
