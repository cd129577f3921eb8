use Rattle.std.proofs.Common.{arith, ◌∙◌, ap, subst}
use Rattle.guest_code.specs.Program.{IsValid}
use Rattle.semantics.specs.Machine.{retake_of}
use Rattle.semantics.specs.declared.state.MutexAction.TheVariants.{Retake as Retakes}
use Rattle.semantics_machine.proofs.{Objects.leaving, Performed.retakes}
use Rattle.semantics_machine.proofs.control.Control.retake.Goals as goal

pub returns-in-Wait : goal.returns-in-Wait
returns-in-Wait c = λ p s cells mine shows shared own of fine next on.
    let takes = next ∙ ap retake_of c.in-Wait.is in
    let v = subst (IsValid p) c.in-Wait.is fine in
    retakes p s c.args.thread c.args.self.now c.take_mutex.new.self cells mine c.in-Wait.mutex shared
    own takes c.take_mutex.ensures.lengths
    (c.take_mutex.ensures.takes p s Retakes
    (leaving p s c.args.thread c.args.self.now _ shows on takes)
    (omega (arith, v.1, of.owners)) tt)
