use Rattle.std.proofs.Common.{◌≡◌, ◌∙◌, true, ap, sym, subst, get_or}
use Rattle.std.proofs.lemmas.Result.{on_ok_weaker}
use Rattle.semantics.specs.Machine.{Snapshot, start, is_enabled}
use Rattle.semantics_schedules.{specs.Schedules.state_after, proofs.Executions.runs_at}
use Rattle.walk.proofs.RunWalks.{way_more}
use Rattle.walk.proofs.path.Path.replay_step.Goals as goal

pub extend-requires-clause-enabled : goal.extend-requires-clause-enabled
extend-requires-clause-enabled c =
    let p = c.args.program.now in
    let w = c.args.schedule.now in
    subst (λ (z : Snapshot). is_enabled p z (get_or w c.args.place 0) ≡ true)
    (sym (ap (state_after p (start p)) c.requires.steps))
    (runs_at p (start p) w c.args.place c.requires.runs c.requires.place)

pub returns-then-place-eq1-clause-steps : goal.returns-then-place-eq1-clause-steps
returns-then-place-eq1-clause-steps c =
    let w = c.args.schedule.now in
    on_ok_weaker c.push_frame.result (λ pushed. pushed.steps
    ∙ way_more c.args.program.now c.args.self.now c.extend.new.self w c.args.place c.empty.result
    c.in_ok-extend.field-0 c.in_ok-extend.ensures.extended c.requires.steps c.requires.place)
    c.push_frame.ensures.pushed

pub returns-else-place-eq1-clause-steps : goal.returns-else-place-eq1-clause-steps
returns-else-place-eq1-clause-steps c =
    way_more c.args.program.now c.args.self.now c.extend.new.self c.args.schedule.now c.args.place
    c.empty.result c.in_ok-extend.field-0 c.in_ok-extend.ensures.extended c.requires.steps
    c.requires.place
