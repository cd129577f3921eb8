use Rattle.std.proofs.Common.{◌∙◌, ap, rules, w64, FitsSigned, to_z-of_z}
use Rattle.guest_code.specs.{Code.variable_of, Program.variable_view}
use Rattle.guest_code.proofs.LoweredObjects.{objects_more, objects_same, is_variable, not_variable}
use Rattle.guest_code.proofs.lowering.lower_variables.Goals.{in-Variable+in_ok-lower_variable+in_ok-push, in_default}
use Rattle.guest_code.proofs.lowering.lower_variables.Goals as goal

pub loop-declaration-preserved : goal.loop-declaration-preserved
loop-declaration-preserved c = elim c.match-declaration.branch [
  | in-Variable+in_ok-lower_variable+in_ok-push w ↦
      let fits : FitsSigned w64 w.in-Variable.opening = search rules in
      let made = rw (to_z-of_z fits) at w.in_ok-lower_variable.ensures in
      let pushed = ap (λ v. v.items) w.all-is ∙ w.in_ok-push.ensures.items in
      objects_more variable_of variable_view c.args.declarations.now
      c.loop-declaration.declaration-index c.declaration-item.result
      c.loop-declaration.all.items c.match-declaration.all.items _ _
      c.loop-declaration-test.true c.declaration-item.is pushed
      (is_variable c.declaration-item.result.name.text.items c.declaration-item.result.object
      _ _ w.in-Variable.is made) c.loop-declaration.invariant
  | in_default w ↦
      let kept = ap (λ v. v.items) w.all-is in
      objects_same variable_of variable_view c.args.declarations.now
      c.loop-declaration.declaration-index c.declaration-item.result
      c.loop-declaration.all.items c.match-declaration.all.items _
      c.loop-declaration-test.true c.declaration-item.is kept
      (not_variable _ _ w.in_default.not-Variable) c.loop-declaration.invariant
]
