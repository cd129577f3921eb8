use Rattle.std.proofs.Common.{arith, ◌∙◌, ◌<◌, length, refl}
use Rattle.semantics_machine.proofs.Performed.{leaves, unlocks, cannot_unlock, owns_number, owner_is, owner_is_not}
use Rattle.semantics_machine.proofs.control.Control.unlock.Goals as goal

pub returns-then-self-mutex : goal.returns-then-self-mutex
returns-then-self-mutex c = λ p s cells mine poised.
    let few : c.args.mutex < length c.args.self.now.owners =
    omega (arith, c.requires.ready.5.fine, c.requires.ready.4.mutexes) in
    cannot_unlock p s c.args.thread _ c.args.self.now cells mine c.args.mutex poised refl
    (owns_number c.args.thread _ _ c.requires.thread
    (poised.control.objects.owners_are c.args.mutex)
    ∙ owner_is_not c.args.self.now.owners c.args.mutex c.args.thread few c.if-self-mutex.true)

pub returns : goal.returns
returns c = λ p s cells mine poised.
    let few : c.args.mutex < length c.args.self.now.owners =
    omega (arith, c.requires.ready.5.fine, c.requires.ready.4.mutexes) in
    unlocks p s c.args.thread _ c.args.self.now c.free_mutex.new.self cells mine c.args.mutex
    poised refl
    (owns_number c.args.thread _ _ c.requires.thread
    (poised.control.objects.owners_are c.args.mutex)
    ∙ owner_is c.args.self.now.owners c.args.mutex c.args.thread few c.if-self-mutex.false)
    c.free_mutex.ensures.lengths
    (c.free_mutex.ensures.frees p s c.args.thread
    (leaves p s c.args.thread _ c.args.self.now cells mine _ poised refl (λ n. refl) (λ k. refl))
    (omega (arith, poised.fine, poised.of.owners)))
