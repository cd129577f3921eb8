use Rattle.std.proofs.Common.{arith, ◌∙◌, ◌∷◌, [], ◌++◌, ◌+◌, ◌<◌, length, refl, ap, sym, subst, get_or, set, pos}
use Rattle.std.proofs.lemmas.List.{set-get_or}
use Rattle.semantics.specs.{Machine.queue_of, declared.state.Status.TheVariants.Stopped}
use Rattle.semantics.specs.declared.state.Stop.TheVariants.{NotHeld}
use Rattle.semantics_machine.specs.{Refinement.queued, inner.Steps.{AreShared, IsPerformed}}
use Rattle.semantics_machine.proofs.Performed.{leaves, waits_on, cannot_wait, room_for, owns_number, owner_is, owner_is_not}
use Rattle.semantics_machine.proofs.Queues.{recelled}
use Rattle.semantics_machine.proofs.control.Control.begin_wait.Goals as goal

pub returns-then-self-mutex : goal.returns-then-self-mutex
returns-then-self-mutex c = λ p s cells mine poised is.
    let few : c.args.mutex < length c.args.self.now.owners =
    omega (arith, c.requires.ready.5.fine.1, c.requires.ready.4.mutexes) in
    subst (λ xs. IsPerformed p s c.args.thread c.args.self.now xs mine (Stopped NotHeld))
    (sym (ap (set cells (length s.vars + c.args.condition)) is
    ∙ set-get_or cells (length s.vars + c.args.condition) (pos 0)))
    (cannot_wait p s c.args.thread _ c.args.self.now cells mine c.args.condition c.args.mutex
    poised refl
    (owns_number c.args.thread _ _ c.requires.thread
    (poised.control.objects.owners_are c.args.mutex)
    ∙ owner_is_not c.args.self.now.owners c.args.mutex c.args.thread few c.if-self-mutex.true))

pub returns : goal.returns
returns c = λ p s cells mine poised is.
    let n = c.args.condition in
    let L = get_or c.args.self.now.lengths n 0 in
    let few : c.args.mutex < length c.args.self.now.owners =
    omega (arith, c.requires.ready.5.fine.1, c.requires.ready.4.mutexes) in
    let inside : n < length s.queues = omega (arith, poised.fine.0, poised.of.queues) in
    let room : n < length c.args.self.now.lengths =
    omega (arith, c.requires.ready.5.fine.0, c.requires.ready.4.conditions) in
    waits_on p s c.args.thread _ c.args.self.now c.free_mutex.new.self cells mine
    (set cells (length s.vars + n) c.enqueue.new.queue) n
    c.args.mutex poised refl
    (owns_number c.args.thread _ _ c.requires.thread
    (poised.control.objects.owners_are c.args.mutex)
    ∙ owner_is c.args.self.now.owners c.args.mutex c.args.thread few c.if-self-mutex.false)
    (c.free_mutex.ensures.frees p _ c.args.thread
    (c.enqueue.ensures.rest p s c.args.thread
    (leaves p s c.args.thread _ c.args.self.now cells mine _ poised refl (λ n. refl) (λ k. refl))
    inside)
    (omega (arith, poised.fine.1, poised.of.owners)))
    (subst (λ ls. AreShared ls (set cells (length s.vars + n) c.enqueue.new.queue) s.vars
    (set s.queues n (queue_of s n ++ c.args.thread ∷ [])))
    (sym (c.free_mutex.ensures.lengths ∙ c.enqueue.ensures.lengths))
    (recelled c.args.self.now.lengths cells s.vars s.queues n (L + 1) c.enqueue.new.queue
    (queue_of s n ++ c.args.thread ∷ []) poised.shared inside room
    (c.enqueue.ensures.queue ∙ ap (λ q. q ++ c.args.thread ∷ [])
    (ap (queued L) is ∙ poised.shared.are_queues n inside))))

pub enqueue-requires-clause-room : goal.enqueue-requires-clause-room
enqueue-requires-clause-room c = room_for c.requires.ready.0 c.requires.ready.1 c.args.thread _
    c.args.self.now c.requires.ready.2 c.requires.ready.3 c.args.condition c.args.mutex
    c.requires.ready.5 refl
