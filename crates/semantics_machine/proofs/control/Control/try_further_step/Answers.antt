use Rattle.std.proofs.Common.{arith, refl}
use Rattle.guest_code.specs.declared.program.Instruction.TheVariants.{Load}
use Rattle.semantics_machine.{specs.inner.Runs.run_to, proofs.Runs.{poised_going, going_further}}
use Rattle.semantics_machine.proofs.control.Control.try_further_step.Goals as goal

pub perform-status-requires-clause-ready : goal.perform-status-requires-clause-ready
perform-status-requires-clause-ready c =
    let s = c.requires.going.0 in
    let m = c.args.moving.now in (
      run_to c.args.program.now s m.thread m.steps,
      poised_going c.args.program.now s m.thread c.args.self.now c.args.shared.now c.args.own.now m
          c.args.code.now (Load 0 0) c.requires.going.2 c.requires.running c.requires.going.1
          c.requires.valid c.requires.place c.requires.faces,
    )

pub returns-clause-going : goal.returns-clause-going
returns-clause-going c = λ s h.
    let p = c.args.program.now in
    let m = c.args.moving.now in
    let q = c.perform-status.ensures (run_to p s m.thread m.steps)
    (poised_going p s m.thread c.args.self.now c.args.shared.now c.args.own.now m
    c.args.code.now (Load 0 0) h c.requires.running c.requires.going.1 c.requires.valid c.requires.place
    c.requires.faces) in
    going_further p s m.thread c.args.self.now c.args.shared.now c.args.own.now m
    c.args.code.now (Load 0 0) h c.requires.running c.requires.going.1 c.requires.valid c.requires.place
    c.requires.faces c.perform-status.new.self c.perform-status.new.shared c.perform-status.new.own
    _ q (omega arith) c.place_after-moving.ensures refl refl refl c.requires.among
