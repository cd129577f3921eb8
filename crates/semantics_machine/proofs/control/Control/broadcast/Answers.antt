use Rattle.std.proofs.Common.{arith, rules, ◌≡◌, ◌<◌, ◌-◌, ◌∙◌, length, length-set, refl, sym, subst, ap, drop, [], get_or, set, get_or-set_same}
use Rattle.std.{specs.Int.w64, proofs.lemmas.Int.to_z-of_z}
use Rattle.semantics_machine.specs.inner.Steps.{AreShared}
use Rattle.semantics_machine.proofs.Performed.{calling_start, calling_state, calling_next, calling_done, few_wait, called_waits, called_apart, called_below}
use Rattle.semantics_machine.proofs.Queues.{unqueued, first_queued}
use Rattle.semantics_machine.proofs.control.Control.broadcast.Goals as goal

pub loop-self-init : goal.loop-self-init
loop-self-init c = record {
  few = few_wait c.args.program.now c.requires.ready.0 c.args.thread c.args.c _ c.args.self.now
      c.requires.ready.1 c.requires.ready.2 c.requires.ready.3 refl;
  calling = λ s cells mine poised is. calling_start c.args.program.now s c.args.thread c.args.c
      c.args.self.now cells mine poised;
}

pub bounds-self-c : goal.bounds-self-c
bounds-self-c c = omega (arith, c.requires.ready.3.fine, c.keeps_limits.ensures.conditions)

pub wake-requires : goal.wake-requires
wake-requires c =
    let p = c.args.program.now in
    let t = c.args.thread in
    let s = c.requires.ready.0 in
    let cells = c.requires.ready.1 in
    let poised = c.requires.ready.3 in
    let inside : c.args.c < length s.queues = omega (arith, poised.fine, poised.of.queues) in
    let many = length-set s.queues c.args.c in
    let same = to_z-of_z w64 c.args.queue (search rules) ∙ c.requires.ready.4 in
    let h = c.loop-self.invariant.calling s cells c.requires.ready.2 poised same in
    let first = first_queued c.loop-self.self.lengths cells s.vars (set s.queues c.args.c h.rest)
    c.args.c _ c.dequeue-first.result h.shared (omega (arith, inside, many h.rest))
    same c.dequeue-first.ensures.first in
    let l = called_below p s t c.args.c c.loop-self.self cells h inside poised.status
    c.dequeue-first.result first in
    record { thread = omega (arith, l, h.many, poised.of.threads) }

-- a queue is shorter by one after a call
fewer : (c : goal.After-wake) → get_or c.wake.new.self.lengths c.args.c 0
    ≡ get_or c.loop-self.self.lengths c.args.c 0 - 1
fewer c = let room : c.args.c < length c.loop-self.self.lengths =
    omega (arith, c.requires.ready.3.fine, c.keeps_limits.ensures.conditions) in
    ap (λ ls. get_or ls c.args.c 0) (c.wake.ensures.lengths ∙ c.dequeue-first.ensures.lengths)
    ∙ get_or-set_same c.loop-self.self.lengths c.args.c _ 0 room

pub loop-self-smaller : goal.loop-self-smaller
loop-self-smaller c = omega (arith, fewer c, c.loop-self-test.true)

pub loop-self-preserved : goal.loop-self-preserved
loop-self-preserved c = record {
  few = omega (arith, fewer c, c.loop-self.invariant.few);
  calling = λ s cells mine poised is.
      let p = c.args.program.now in
      let t = c.args.thread in
      let n = c.args.c in
      let inside : n < length s.queues = omega (arith, poised.fine, poised.of.queues) in
      let h = c.loop-self.invariant.calling s cells mine poised is in
      let z = calling_state p s t n c.loop-self.self cells h inside poised.status in
      let f = c.dequeue-first.result in
      let qs = set s.queues n h.rest in
      let there : n < length qs = omega (arith, inside, length-set s.queues n h.rest) in
      let room : n < length c.loop-self.self.lengths =
      omega (arith, c.requires.ready.3.fine, c.keeps_limits.ensures.conditions) in
      let first = first_queued c.loop-self.self.lengths cells s.vars qs n _ f h.shared
      there is c.dequeue-first.ensures.first in
      calling_next p s t n c.loop-self.self cells h inside poised.status f first
      c.wake.new.self
      (c.wake.ensures.shows _ t n
      (c.dequeue-first.ensures.rest p z t h.control there)
      (called_apart p s t n c.loop-self.self cells h inside poised.status f first)
      (called_waits p s t n c.loop-self.self cells h inside poised.status f first)
      (called_below p s t n c.loop-self.self cells h inside poised.status f first))
      (subst (λ ls. AreShared ls cells s.vars (set qs n (drop 1 (get_or qs n []))))
      (sym (c.wake.ensures.lengths ∙ c.dequeue-first.ensures.lengths))
      (unqueued c.loop-self.self.lengths cells s.vars qs n _ f h.shared there room is
      c.dequeue-first.ensures.first));
}

pub returns : goal.returns
returns c = λ s cells mine poised is. calling_done c.args.program.now s c.args.thread c.args.c
    c.args.self.now c.loop-self.self cells mine poised
    (c.loop-self.invariant.calling s cells mine poised
    (to_z-of_z w64 c.args.queue (search rules) ∙ is)) (omega (arith, c.loop-self-test.false))
