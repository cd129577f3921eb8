use Rattle.std.proofs.Common.{◌≡◌, ◌∙◌, ap, arith, Some}
use Rattle.semantics_schedules.specs.Schedules.{preemptions}
use Rattle.walk_summary.specs.Summaries.{end_kind}
use Rattle.replay.specs.Run.{Run}
use Rattle.runner.proofs.{Preemptions.preemptions_fit, Promises.{ends_somehow, runs_through}}
use Rattle.runner.proofs.reports.end_of.Goals as goal

pub run_of-requires : goal.run_of-requires
run_of-requires c = runs_through c.args.program.now c.args.schedule.now c.requires

pub overflow_cast-result : goal.overflow_cast-result
overflow_cast-result c =
    let p = c.args.program.now in
    let w = c.args.schedule.now in
    let few = preemptions_fit p w c.programs_are_well_formed.ensures
    (runs_through p w c.requires) in
    let same : c.preemptions.result ≡ preemptions p w =
    c.preemptions.ensures ∙ ap (λ (r : Run). r.preemptions) c.in_ok-run.ensures.run.same in
    omega (arith, few, same)

pub kind_of-requires : goal.kind_of-requires
kind_of-requires c none =
    let p = c.args.program.now in
    let w = c.args.schedule.now in
    let some : c.in_ok-run.run'.kind ≡ Some (end_kind p w) =
    ap (λ (r : Run). r.kind) c.in_ok-run.ensures.run.same ∙ ends_somehow p w c.requires in
    cc
