use Rattle.std.proofs.Common.{rules, ◌≡◌, ℕ, ◌+◌, Bool, true, length, ◌∙◌, ap, sym, subst, refl, arith, length-take, []}
use Rattle.guest_code.specs.Program.{Program}
use Rattle.semantics.{specs.Machine.{Snapshot, is_enabled}, proofs.WorkFalls.enabled_below}
use Rattle.replay.proofs.LinesOfSteps.{few_so_far}
use Rattle.explain_run.specs.{Steps.lines_of, inner.Carrying.AreHoldersAfter}
use Rattle.explain_run.proofs.CarriedOut.{IsCarriedUpTo, carried_none, carried_more}
use Rattle.explain_run.proofs.Pushed.{written_back}
use Rattle.explain_run.proofs.explanation.Run.new.Goals as goal

-- the thread that was asked about is enabled
on : (p : Program) (s t : Snapshot) (n : ℕ) (b : Bool) → s ≡ t → b ≡ is_enabled p s n →
    b ≡ true → is_enabled p t n ≡ true
on p s t n b same asked held = sym (ap (λ u. is_enabled p u n) same) ∙ (sym asked ∙ held)

pub take-requires-clause-room : goal.take-requires-clause-room
take-requires-clause-room c =
    let few = few_so_far c.args.program.now c.args.schedule.now c.loop-at.at c.loop-at.execution
    (lines_of c.loop-at.steps.items) c.loop-at.invariant.told in
    let taken = length-take c.loop-at.at c.args.schedule.now in
    omega (arith, few, taken)

pub take-requires-clause-thread : goal.take-requires-clause-thread
take-requires-clause-thread c =
    let can = on c.args.program.now c.state.result.now c.loop-at.execution.state _ _
    c.state.ensures c.can_step.ensures c.if-can_step.true in
    let l = enabled_below c.args.program.now c.loop-at.execution.state _ can in
    let n = c.loop-at.invariant.of.state.threads in
    omega (arith, l, n)

pub loop-at-init : goal.loop-at-init
loop-at-init c =
    let p = c.args.program.now in
    let w = c.args.schedule.now in
    let e = c.in_ok-execution.execution in
    let free = c.in_ok-holders.ensures.items_if_clones_equal (λ y h. search rules) in
    subst (λ steps. IsCarriedUpTo p w 0 e steps c.in_ok-holders.holders.items)
    (sym c.new-steps.ensures.items)
    (subst (IsCarriedUpTo p w 0 e []) (sym free)
    (carried_none p w e c.mutexes.result c.in_ok-execution.ensures.reached
    c.in_ok-execution.ensures.of c.mutexes.ensures.number))

pub loop-at-preserved : goal.loop-at-preserved
loop-at-preserved c =
    let p = c.args.program.now in
    let w = c.args.schedule.now in
    let at = c.loop-at.at in
    let old = c.loop-at.holders.items in
    let new = c.take.new.execution in
    let next = subst (λ (s : Snapshot). AreHoldersAfter old c.update_holders.new.holders s at)
    c.state-then-can_step.ensures
    (subst (λ l. AreHoldersAfter l c.update_holders.new.holders
    c.state-then-can_step.result.now at) c.deref_mut.ensures.value c.update_holders.ensures) in
    let long = ap length (sym c.deref_mut.ensures.value) ∙ c.deref_mut.ensures.len in
    subst (IsCarriedUpTo p w (at + 1) new c.push.new.self.items)
    (sym (written_back c.loop-at.holders.len old c.update_holders.new.holders next.all long))
    (carried_more p w at _ c.loop-at.execution new c.loop-at.steps.items _ old
    c.update_holders.new.holders c.in_ok-step.step c.keeps_limits.ensures c.loop-at-test.true refl
    (on c.args.program.now c.state.result.now c.loop-at.execution.state _ _
    c.state.ensures c.can_step.ensures c.if-can_step.true) c.loop-at.invariant
    c.in_ok-step.ensures c.in_ok-push.ensures.items next)
