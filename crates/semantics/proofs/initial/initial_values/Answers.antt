use Rattle.std.proofs.Common.{rules, arith, w64, ◌∙◌}
use Rattle.std.specs.Prelude.{FitsSigned}
use Rattle.std.proofs.lemmas.Int.{to_z-of_z}
use Rattle.guest_code.specs.Program.{no_variable}
use Rattle.semantics.proofs.ListsBuiltInLoops.{built_more, built_all}
use Rattle.semantics.proofs.initial.initial_values.Goals as goal

pub loop-x-preserved : goal.loop-x-preserved
loop-x-preserved c =
    let b = c.initial_value.type_inv in
    let fits : FitsSigned w64 c.initial_value.result = search rules in
    built_more (λ v. v.opening) c.args.program.now.variables c.loop-x.x no_variable
    c.loop-x.values.items _ _ (omega arith) c.loop-x.invariant
    (to_z-of_z w64 c.initial_value.result fits ∙ c.initial_value.ensures) c.in_ok-push.ensures.items

pub returns : goal.returns
returns c = built_all (λ v. v.opening) c.args.program.now.variables c.loop-x.x
    c.loop-x.values.items c.loop-x.invariant (omega arith)
