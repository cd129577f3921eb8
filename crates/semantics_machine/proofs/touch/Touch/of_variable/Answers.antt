use Rattle.std.proofs.Common.{◌≡◌, ◌*◌, ◌∙◌, ℕ, Some, ap, sym}
use Rattle.semantics.specs.declared.state.Action.TheVariants.{OnVariable}
use Rattle.semantics.specs.declared.state.VariableAction.{VariableAction}
use Rattle.semantics_machine.specs.{Touches.touch_of, declared.touch.Touch.Touch}
use Rattle.semantics_machine.proofs.TouchBits.{one_written, one_read}
use Rattle.semantics_machine.proofs.touch.Touch.of_variable.Goals as goal

-- the same of an equal action
back : (x : ℕ) (d e : VariableAction) (t : Touch) → e ≡ d → t ≡ touch_of (Some (OnVariable x d))
    → t ≡ touch_of (Some (OnVariable x e))
back x d e t same h = h ∙ ap (λ a. touch_of (Some (OnVariable x a))) (sym same)

pub returns-in-Load : goal.returns-in-Load
returns-in-Load c = back c.args.variable _ c.args.action _ c.in-Load.is
    (one_read c.writing-touch.result.all (4 * c.args.variable) c.writing-touch.ensures.all)

pub returns-in-Store : goal.returns-in-Store
returns-in-Store c = back c.args.variable _ c.args.action c.writing-touch.result c.in-Store.is
    (one_written c.writing-touch.result (4 * c.args.variable) c.writing-touch.ensures.all
    c.writing-touch.ensures.written)

pub returns-in-Add : goal.returns-in-Add
returns-in-Add c = back c.args.variable _ c.args.action c.writing-touch.result c.in-Add.is
    (one_written c.writing-touch.result (4 * c.args.variable) c.writing-touch.ensures.all
    c.writing-touch.ensures.written)

pub returns-in-Cas : goal.returns-in-Cas
returns-in-Cas c = back c.args.variable _ c.args.action c.writing-touch.result c.in-Cas.is
    (one_written c.writing-touch.result (4 * c.args.variable) c.writing-touch.ensures.all
    c.writing-touch.ensures.written)
