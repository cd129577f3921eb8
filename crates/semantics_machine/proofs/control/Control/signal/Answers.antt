use Rattle.std.proofs.Common.{arith, rules, ◌<◌, ◌∙◌, length, drop, refl, sym, subst, set}
use Rattle.std.{specs.Int.w64, proofs.lemmas.Int.to_z-of_z}
use Rattle.semantics.specs.Machine.{queue_of}
use Rattle.semantics_machine.specs.inner.Steps.{AreShared}
use Rattle.semantics_machine.proofs.Performed.{leaves, signals, signals_nobody, first_waits, first_apart, first_below, few_wait}
use Rattle.semantics_machine.proofs.Queues.{unqueued, first_queued}
use Rattle.semantics_machine.proofs.control.Control.signal.Goals as goal

pub returns-then-self-c-gt0 : goal.returns-then-self-c-gt0
returns-then-self-c-gt0 c = λ s cells mine poised is.
    let p = c.args.program.now in
    let t = c.args.thread in
    let but = leaves p s t _ c.args.self.now cells mine _ poised refl (λ k. refl) (λ k. refl) in
    let f = c.dequeue-first.result in
    let inside : c.args.c < length s.queues = omega (arith, poised.fine, poised.of.queues) in
    let room : c.args.c < length c.args.self.now.lengths =
    omega (arith, c.requires.ready.3.fine, c.keeps_limits.ensures.conditions) in
    let same = to_z-of_z w64 c.args.queue (search rules) ∙ is in
    let first = first_queued c.args.self.now.lengths cells s.vars s.queues c.args.c _ f
    poised.shared inside same c.dequeue-first.ensures.first in
    let waits = first_waits p s t c.args.c f _ c.args.self.now cells mine poised first in
    signals p s t c.args.c f c.args.self.now c.wake.new.self cells mine poised first
    (c.wake.ensures.shows _ t c.args.c (c.dequeue-first.ensures.rest p s t but
    inside)
    (first_apart p s t c.args.c f _ c.args.self.now cells mine poised waits) waits
    (first_below p s t c.args.c f _ c.args.self.now cells mine poised first))
    (subst (λ ls. AreShared ls cells s.vars (set s.queues c.args.c (drop 1 (queue_of s c.args.c))))
    (sym (c.wake.ensures.lengths ∙ c.dequeue-first.ensures.lengths))
    (unqueued c.args.self.now.lengths cells s.vars s.queues c.args.c _ f poised.shared
    inside room same c.dequeue-first.ensures.first))

pub returns-else-self-c-gt0 : goal.returns-else-self-c-gt0
returns-else-self-c-gt0 c = λ s cells mine poised is. signals_nobody c.args.program.now s
    c.args.thread c.args.c c.args.self.now cells mine poised (omega (arith, c.if-self-c-gt0.false))

pub wake-requires : goal.wake-requires
wake-requires c =
    let s = c.requires.ready.0 in
    let poised = c.requires.ready.3 in
    let inside : c.args.c < length s.queues = omega (arith, poised.fine, poised.of.queues) in
    let l = first_below c.args.program.now s c.args.thread c.args.c c.dequeue-first.result _
    c.args.self.now c.requires.ready.1 c.requires.ready.2 poised
    (first_queued c.args.self.now.lengths c.requires.ready.1 s.vars s.queues c.args.c _
    c.dequeue-first.result poised.shared inside
    (to_z-of_z w64 c.args.queue (search rules) ∙ c.requires.ready.4)
    c.dequeue-first.ensures.first) in
    record { thread = omega (arith, l, poised.of.threads) }

pub dequeue-first-requires-clause-few : goal.dequeue-first-requires-clause-few
dequeue-first-requires-clause-few c = few_wait c.args.program.now c.requires.ready.0
    c.args.thread
    c.args.c _ c.args.self.now c.requires.ready.1 c.requires.ready.2 c.requires.ready.3 refl
