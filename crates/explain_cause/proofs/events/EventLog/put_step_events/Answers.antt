use Rattle.std.specs.Prelude.{slice_set}
use Rattle.std.proofs.Common.{◌≡◌, ◌∙◌, ◌++◌, ◌∷◌, [], length, ap, sym, arith, rules}
use Rattle.std.proofs.lemmas.{Bool.{eq-eqb, ne_eqb}, List.append-nil, Result.on_ok_weaker}
use Rattle.guest_code.specs.declared.limits.TheConstants.{THREADS}
use Rattle.check_lint.specs.Uses.{local_set}
use Rattle.explain_cause.specs.{Course.{all_after, locals_with, row}, Events.value_by}
use Rattle.explain_cause.proofs.Runs.{nothing_by, nothing_set, on_events, on_locals, step_alone}
use Rattle.explain_cause.proofs.events.EventLog.put_step_events.Goals as goal

pub returns-in_default-clause-events : goal.returns-in_default-clause-events
returns-in_default-clause-events c =
    sym (ap (λ es. c.args.self.now.events.items ++ es) (nothing_by c.args.code.now c.args.at
    c.args.step.now (row c.args.self.now.locals c.args.step.now.line.thread)
    (sym c.instruction_at.ensures ∙ c.in_default.is))
    ∙ append-nil c.args.self.now.events.items)

pub returns-in_default-clause-locals : goal.returns-in_default-clause-locals
returns-in_default-clause-locals c =
    sym (nothing_set c.args.self.now.locals c.args.step.now.line.thread _
    (nothing_by c.args.code.now c.args.at c.args.step.now
    (row c.args.self.now.locals c.args.step.now.line.thread)
    (sym c.instruction_at.ensures ∙ c.in_default.is)))

pub returns-then-step-clause-events : goal.returns-then-step-clause-events
returns-then-step-clause-events c = c.in_ok-put_visible_event.ensures.events
    ∙ (ap (λ e. c.args.self.now.events.items ++ e ∷ []) c.visible_event.ensures
    ∙ sym (ap (λ es. c.args.self.now.events.items ++ es) (step_alone c.args.code.now c.args.at
    c.args.step.now (row c.args.self.now.locals c.args.step.now.line.thread)
    c.in-Some.statement (sym c.instruction_at.ensures ∙ c.in-Some.is)
    (eq-eqb _ _ c.if-step.true))))

pub returns-then-step-clause-locals : goal.returns-then-step-clause-locals
returns-then-step-clause-locals c = c.in_ok-put_visible_event.ensures.locals
    ∙ (ap (λ e. slice_set c.args.self.now.locals e.thread (locals_with
    (row c.args.self.now.locals e.thread) (local_set e.statement) (value_by e.deed)))
    c.visible_event.ensures
    ∙ sym (ap (λ es. all_after c.args.self.now.locals c.args.step.now.line.thread es)
    (step_alone c.args.code.now c.args.at
    c.args.step.now (row c.args.self.now.locals c.args.step.now.line.thread)
    c.in-Some.statement (sym c.instruction_at.ensures ∙ c.in-Some.is)
    (eq-eqb _ _ c.if-step.true))))

pub returns-clause-events : goal.returns-clause-events
returns-clause-events c = on_ok_weaker c.put_local_run.result
    (λ e. on_events c.args.code.now c.args.at c.args.step.now c.in-Some.statement
    c.args.self.now.locals c.put_visible_event.new.self.locals
    (let long : length c.args.self.now.locals ≡ THREADS = search rules in omega (arith, long))
    (sym c.instruction_at.ensures ∙ c.in-Some.is) (ne_eqb _ _ c.if-step.false)
    (c.in_ok-put_visible_event.ensures.locals ∙ ap (λ e. slice_set c.args.self.now.locals e.thread
    (locals_with (row c.args.self.now.locals e.thread) (local_set e.statement)
    (value_by e.deed))) c.visible_event.ensures)
    c.args.self.now.events.items c.put_visible_event.new.self.events.items
    c.put_local_run.new.self.events.items
    (c.in_ok-put_visible_event.ensures.events
    ∙ ap (λ e. c.args.self.now.events.items ++ e ∷ []) c.visible_event.ensures) e)
    c.put_local_run.ensures.events

pub returns-clause-locals : goal.returns-clause-locals
returns-clause-locals c = on_ok_weaker c.put_local_run.result
    (λ e. on_locals c.args.code.now c.args.at c.args.step.now c.in-Some.statement
    c.args.self.now.locals c.put_visible_event.new.self.locals
    (let long : length c.args.self.now.locals ≡ THREADS = search rules in omega (arith, long))
    (sym c.instruction_at.ensures ∙ c.in-Some.is) (ne_eqb _ _ c.if-step.false)
    (c.in_ok-put_visible_event.ensures.locals ∙ ap (λ e. slice_set c.args.self.now.locals e.thread
    (locals_with (row c.args.self.now.locals e.thread) (local_set e.statement)
    (value_by e.deed))) c.visible_event.ensures)
    c.put_local_run.new.self.locals e)
    c.put_local_run.ensures.locals
