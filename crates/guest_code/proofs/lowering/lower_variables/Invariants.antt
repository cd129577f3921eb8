use Rattle.std.proofs.Common.{◌≡◌, ◌++◌, drop}
use Rattle.guest_code.specs.{Code.variable_of, Program.variables_view, inner.Emission.objects_in}
use Rattle.guest_code.proofs.lowering.lower_variables.Given as goal

abbrev pub invariant-loop-declaration : goal.invariant-loop-declaration
invariant-loop-declaration l = variables_view l.all ++ objects_in variable_of
    (drop l.declaration-index l.declarations) ≡ objects_in variable_of l.declarations
