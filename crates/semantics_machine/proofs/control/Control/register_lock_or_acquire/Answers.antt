use Rattle.std.proofs.Common.{arith, ap, sym, subst, true, set, get_or, nat_lt}
use Rattle.guest_code.specs.Program.{IsValid}
use Rattle.semantics.specs.{Machine.action_of, declared.state.MutexAction.TheVariants.Lock as Locks}
use Rattle.semantics_machine.specs.inner.Parts.{Stands}
use Rattle.semantics_machine.proofs.Landings.{stands_at_semaphore, stands_at_none, plain_else}
use Rattle.semantics_machine.proofs.control.Control.register_lock_or_acquire.Goals as goal

pub returns-in-Lock-clause-stands : goal.returns-in-Lock-clause-stands
returns-in-Lock-clause-stands c = λ s objects apart.
    subst (λ a. Stands c.args.self.now c.register_at_mutex.new.self s c.args.thread a
    c.register_at_mutex.result)
    (ap action_of (sym c.in-Lock.is)) (c.register_at_mutex.ensures.stands s Locks objects apart tt)

pub returns-in-Acquire-clause-stands : goal.returns-in-Acquire-clause-stands
returns-in-Acquire-clause-stands c = λ s objects apart.
    let v = subst (IsValid c.requires.fine.0) c.in-Acquire.is c.requires.fine.1 in
    subst (λ a. Stands c.args.self.now (record c.args.self.now {
      semaphores = set c.args.self.now.semaphores c.in-Acquire.k c.with.result;
    }) s c.args.thread a (nat_lt 0 (get_or c.args.self.now.counts c.in-Acquire.k 0)))
    (ap action_of (sym c.in-Acquire.is))
    (stands_at_semaphore s c.args.thread c.in-Acquire.k c.args.self.now c.with.result objects apart
    (omega (arith, v, c.requires.fine.2.semaphores)) c.with.ensures.same c.with.ensures.others)

pub returns-in_default-clause-stands : goal.returns-in_default-clause-stands
returns-in_default-clause-stands c = λ s objects apart.
    stands_at_none s c.args.thread _ c.args.self.now true objects apart
    (plain_else c.args.instruction.now c.in_default.not-Lock c.in_default.not-Acquire
    c.in_default.not-Set c.in_default.not-Assert c.in_default.not-SkipIfZero c.in_default.not-Skip)
