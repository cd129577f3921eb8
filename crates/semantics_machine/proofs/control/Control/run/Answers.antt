use Rattle.std.proofs.Common.{arith, true, false, ◌≡◌, ◌∙◌, sym, subst, ap, refl, length, List, rules}
use Rattle.std.proofs.lemmas.Bool.{and_left, and_parts}
use Rattle.guest_code.specs.{Program.code_of, declared.program.Instruction.Instruction}
use Rattle.guest_code.specs.declared.program.Instruction.TheVariants.{Load}
use Rattle.semantics.proofs.WorkFalls.{enabled_below}
use Rattle.semantics_machine.specs.inner.{Runs.{run_to, IsGoing}, Steps.going_on}
use Rattle.semantics_machine.proofs.{Landings.arrived, LocalRuns.lands_there}
use Rattle.semantics_machine.proofs.Runs.{begun, last_enabled, run_over, comes_further}
use Rattle.semantics_machine.proofs.WholeSteps.{here_inside, finished}
use Rattle.semantics_machine.proofs.control.Control.run.Goals as goal

pub loop-going-init : goal.loop-going-init
loop-going-init c = record {
  thread = refl;
  running = λ on. (let is = (and_parts c.args.reach.further _ on).1 in
      search (rules, c.eq.ensures, is));
  one = λ e. (and_left c.args.reach.further _ e, refl);
  heedless = refl;
  going = λ s ready.
      let p = c.args.program.now in
      let t = c.args.thread in
      begun p s t c.args.self.now c.take_step-status.new.self c.args.shared.now c.args.own.now
      c.take_step-status.new.shared c.take_step-status.new.own _ _ ready
      (c.take_step-status.ensures s ready) (ready.control.threads t).place
      (here_inside p s t c.args.self.now (code_of p t) (Load 0 0) ready.control ready.enabled refl)
      (omega arith) c.place_after.ensures refl;
  among = λ _ _. (c.with.ensures.same, c.with.ensures.others);
}

pub loop-going-preserved : goal.loop-going-preserved
loop-going-preserved c = record {
  thread = c.try_instruction-going.ensures.thread ∙ c.loop-going.invariant.thread;
  running = c.try_instruction-going.ensures.running;
  among = c.try_instruction-going.ensures.among;
  heedless = c.try_instruction-going.ensures.heedless ∙ c.loop-going.invariant.heedless;
  one = λ e. (let off = (c.loop-going.invariant.one e).0 in
      let no : true ≡ false = sym c.loop-going-test.true ∙ off in absurd (cc));
  going = λ s ready.
      let p = c.args.program.now in
      let known = c.loop-going.invariant in
      subst (λ t. IsGoing p s t c.try_instruction-going.new.self c.try_instruction-going.new.shared
      c.try_instruction-going.new.own c.try_instruction-going.new.moving) known.thread
      (c.try_instruction-going.ensures.going s
      (subst (λ t. IsGoing p s t c.loop-going.self c.loop-going.shared c.loop-going.own
      c.loop-going.moving) (sym known.thread) (known.going s ready)));
}

pub loop-going-smaller : goal.loop-going-smaller
loop-going-smaller c =
    let p = c.args.program.now in
    let s = c.requires.0 in
    let known = c.loop-going.invariant in
    let more = c.try_instruction-going.ensures.going s
    (subst (λ t. IsGoing p s t c.loop-going.self c.loop-going.shared c.loop-going.own
    c.loop-going.moving) (sym known.thread) (known.going s c.requires.1)) in
    let same = ap (λ (is : List Instruction). length is) c.code-code.ensures.code in
    let thread = ap (λ t. length (code_of p t)) known.thread in
    comes_further (length c.code-code.result.now) c.loop-going.moving.place
    c.try_instruction-going.new.moving.place c.loop-going.going c.try_instruction-going.result
    c.loop-going-test.true
    c.try_instruction-going.ensures.place (omega (arith, more.within, same, thread))
    c.try_instruction-going.ensures.further

pub returns-clause-runs : goal.returns-clause-runs
returns-clause-runs c = λ s ready.
    let p = c.args.program.now in
    let t = c.args.thread in
    let m = c.loop-going.moving in
    let e = c.place_thread.new.self in
    let h = c.loop-going.invariant.going s ready in
    let q = h.passed.performed in
    let there = enabled_below p (run_to p s t h.done) t
    (last_enabled p s t c.loop-going.self c.loop-going.shared c.loop-going.own m h) in
    let went = c.land.ensures.thread
    ∙ (ap (λ is. going_on is m.status m.place c.loop-going.own) c.code-code.ensures.code
    ∙ h.passed.goes_on) in
    run_over p s t c.loop-going.self e c.loop-going.shared c.loop-going.own c.land.new.own m _
    c.args.reach.heedless h
    (finished p (run_to p s t h.done) t c.loop-going.self e c.loop-going.shared h.passed.before
    c.land.new.own m.status c.land.result q there (omega (arith, h.passed.many)) went
    c.place_thread.ensures.lengths
    (arrived p q.after t _ c.loop-going.self e q.control (omega (arith, there, q.threads))
    (c.place_thread.ensures.lands p q.after _ q.control.objects q.control.idle
    (lands_there (length h.passed.before) c.land.result c.land.new.own _ went)
    c.code-code.ensures.code)))
    refl refl (sym c.loop-going.invariant.heedless)
