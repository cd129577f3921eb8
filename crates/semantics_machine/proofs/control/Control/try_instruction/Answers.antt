use Rattle.std.proofs.Common.{arith, ◌≡◌, ◌∙◌, refl}
use Rattle.semantics_machine.proofs.{LocalRuns.kept, Runs.{going_locally, going_kept}}
use Rattle.semantics_machine.proofs.control.Control.try_instruction.Goals.{In_default}
use Rattle.semantics_machine.proofs.control.Control.try_instruction.Goals as goal

pub can_step-requires : goal.can_step-requires
can_step-requires c = record {
  valid = (c.args.program.now, c.requires.valid, c.keeps_limits.ensures);
  turn = (c.args.own.now, c.run_if_local.ensures.turn);
}

-- an instruction that isn't the thread's own leaves its locals
own_is : (c : In_default) → c.run_if_local.new.locals ≡ c.args.own.now
own_is c = c.run_if_local.ensures.locals ∙ kept c.args.moving.now.place c.args.own.now _
    (λ n e. c.in_default.not-Runs n (c.run_if_local.ensures.turn ∙ e))

pub try_further_step-requires-clause-place : goal.try_further_step-requires-clause-place
try_further_step-requires-clause-place c = c.can_step.ensures.there c.if-not-can_step.false

pub try_further_step-requires-clause-faces : goal.try_further_step-requires-clause-faces
try_further_step-requires-clause-faces c = c.can_step.ensures.faces c.if-not-can_step.false

pub try_further_step-requires-clause-going : goal.try_further_step-requires-clause-going
try_further_step-requires-clause-going c = (
  c.requires.going.0,
  c.requires.going.1,
  going_kept c.args.program.now c.requires.going.0 c.args.moving.now.thread c.args.self.now
      c.args.shared.now c.args.own.now c.run_if_local.new.locals c.args.moving.now
      c.requires.going.2 (own_is (goal.at.try_further_step-requires-clause-going c).In_default),
)

pub returns-in-Runs-clause-going : goal.returns-in-Runs-clause-going
returns-in-Runs-clause-going c = λ s h.
    going_locally c.args.program.now s c.args.moving.now.thread c.args.self.now c.args.shared.now
    c.args.own.now c.run_if_local.new.locals c.args.moving.now _ c.in-Runs.next c.args.code.now h
    c.requires.running c.requires.going.1 c.in-Runs.ensures.turn c.in-Runs.ensures.locals
    (omega arith) c.in-Runs.ensures.further.0 c.in-Runs.ensures.further.1 refl

pub returns-then-not-can_step-clause-going : goal.returns-then-not-can_step-clause-going
returns-then-not-can_step-clause-going c = λ s h.
    going_kept c.args.program.now s c.args.moving.now.thread c.args.self.now c.args.shared.now
    c.args.own.now c.run_if_local.new.locals c.args.moving.now h
    (own_is (goal.at.returns-then-not-can_step-clause-going c).In_default)

pub returns-else-not-can_step-clause-going : goal.returns-else-not-can_step-clause-going
returns-else-not-can_step-clause-going c = λ s h.
    c.try_further_step.ensures.going s
    (going_kept c.args.program.now s c.args.moving.now.thread c.args.self.now c.args.shared.now
    c.args.own.now c.run_if_local.new.locals c.args.moving.now h
    (own_is (goal.at.returns-else-not-can_step-clause-going c).In_default))
