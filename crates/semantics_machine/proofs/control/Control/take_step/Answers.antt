use Rattle.std.proofs.Common.{arith, ◌∙◌, sym}
use Rattle.guest_code.specs.Program.{IsValidCode, code_of, no_thread}
use Rattle.semantics.proofs.WorkFalls.{enabled_below}
use Rattle.semantics_machine.proofs.WholeSteps.{poised_at, retakes_at, valid_at}
use Rattle.semantics_machine.proofs.control.Control.take_step.Goals as goal

pub retake-requires-clause-ready : goal.retake-requires-clause-ready
retake-requires-clause-ready c =
    let p = c.args.program.now in
    let t = c.args.thread in
    let ready = c.requires.ready.1 in
    let few = enabled_below p c.requires.ready.0 t ready.enabled in
    let valid : IsValidCode p (code_of p t) =
    c.keeps_limits.ensures.codes t no_thread (omega (arith, few, ready.of.threads)) in (
      p,
      c.keeps_limits.ensures,
      valid_at p c.requires.ready.0 t c.args.self.now c.args.instruction.now c.args.shared.now
          c.args.own.now ready c.requires.place valid.fine,
    )

pub returns-then-has : goal.returns-then-has
returns-then-has c = λ s ready.
    let p = c.args.program.now in
    let t = c.args.thread in
    let few = enabled_below p s t ready.enabled in
    let valid : IsValidCode p (code_of p t) =
    c.keeps_limits.ensures.codes t no_thread (omega (arith, few, ready.of.threads)) in
    c.retake.ensures p s c.args.shared.now c.args.own.now ready.control ready.shared ready.own
    ready.of
    (valid_at p s t c.args.self.now c.args.instruction.now c.args.shared.now c.args.own.now ready
    c.requires.place valid.fine)
    (retakes_at p s t c.args.self.now c.args.instruction.now c.args.shared.now c.args.own.now ready
    c.requires.place (sym c.has.ensures ∙ c.if-has.true)) ready.enabled

pub perform-requires-clause-ready : goal.perform-requires-clause-ready
perform-requires-clause-ready c =
    let p = c.args.program.now in
    let t = c.args.thread in
    let s = c.requires.ready.0 in
    let ready = c.requires.ready.1 in
    let few = enabled_below p s t ready.enabled in
    let valid : IsValidCode p (code_of p t) =
    c.keeps_limits.ensures.codes t no_thread (omega (arith, few, ready.of.threads)) in (
      s,
      poised_at p s t c.args.self.now c.args.instruction.now c.args.shared.now c.args.own.now ready
          c.requires.place valid.fine (sym c.has.ensures ∙ c.if-has.false),
    )

pub returns : goal.returns
returns c = λ s ready.
    let p = c.args.program.now in
    let t = c.args.thread in
    let few = enabled_below p s t ready.enabled in
    let valid : IsValidCode p (code_of p t) =
    c.keeps_limits.ensures.codes t no_thread (omega (arith, few, ready.of.threads)) in
    c.perform.ensures s
    (poised_at p s t c.args.self.now c.args.instruction.now c.args.shared.now c.args.own.now ready
    c.requires.place valid.fine (sym c.has.ensures ∙ c.if-has.false))
