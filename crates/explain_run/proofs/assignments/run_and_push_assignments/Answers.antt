use Rattle.std.proofs.Common.{◌++◌, ◌∙◌, ◌<◌, ap, arith, rules, length, get_or, drop, append_assoc}
use Rattle.guest_code.specs.{Program.LocalsBelow, declared.program.Instruction.TheVariants.Load}
use Rattle.explain_run.specs.{Settings.settings_in, inner.Runs.set_at}
use Rattle.explain_run.proofs.LocalRunsTold.{set_run}
use Rattle.explain_run.proofs.assignments.run_and_push_assignments.Goals as goal

pub loop-next-preserved : goal.loop-next-preserved
loop-next-preserved c =
    let code = c.args.code.now in
    let at = c.loop-next.at in
    let inside : at < length code = omega (arith, c.in-Runs.ensures.further) in
    let below : LocalsBelow (length c.loop-next.locals) (get_or code at (Load 0 0)) =
    search rules in
    let run = set_run code at c.in-Runs.next c.loop-next.locals c.run_if_local.new.locals (Load 0 0)
    inside below c.in-Runs.ensures.turn c.in-Runs.ensures.locals in
    ap (λ items. items ++ settings_in (drop c.in-Runs.next code) c.in-Runs.next 0
    c.run_if_local.new.locals) c.in_ok-push_if_set.ensures
    ∙ (append_assoc c.loop-next.assignments.items (set_at at (get_or code at (Load 0 0))
    c.run_if_local.new.locals)
    (settings_in (drop c.in-Runs.next code) c.in-Runs.next 0 c.run_if_local.new.locals)
    ∙ (ap (λ more. c.loop-next.assignments.items ++ more) run ∙ c.loop-next.invariant))
