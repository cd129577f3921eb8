use Rattle.std.proofs.Common.{arith, ap, subst}
use Rattle.guest_code.specs.Program.{IsValid}
use Rattle.semantics.specs.{Machine.action_of, declared.state.MutexAction.TheVariants.Lock as Locks}
use Rattle.semantics_machine.{specs.inner.Parts.IsLeaving, proofs.Performed.{locks, acquires}}
use Rattle.semantics_machine.proofs.control.Control.perform.Goals as goal

pub returns-in-Lock : goal.returns-in-Lock
returns-in-Lock c = λ s poised.
    let p = c.args.program.now in
    let is = ap action_of c.in-Lock.is in
    locks p s c.args.thread c.args.instruction.now c.args.self.now c.take_mutex.new.self
    c.args.shared.now c.args.own.now c.in-Lock.m poised is
    c.take_mutex.ensures.lengths
    (c.take_mutex.ensures.takes p s Locks
    (subst (IsLeaving p c.args.self.now s c.args.thread) is poised.control)
    (let v = subst (IsValid c.args.program.now) c.in-Lock.is poised.fine in
    omega (arith, v, poised.of.owners)) tt)

pub returns-in-Acquire : goal.returns-in-Acquire
returns-in-Acquire c = λ s poised.
    let p = c.args.program.now in
    let is = ap action_of c.in-Acquire.is in
    acquires p s c.args.thread c.args.instruction.now c.args.self.now c.acquire.new.self
    c.args.shared.now c.args.own.now c.in-Acquire.k poised is
    c.acquire.ensures.lengths
    (c.acquire.ensures.acquires p s
    (subst (IsLeaving p c.args.self.now s c.args.thread) is poised.control) poised.woken
    (let v = subst (IsValid c.args.program.now) c.in-Acquire.is poised.fine in
    omega (arith, v, poised.of.counts)))
