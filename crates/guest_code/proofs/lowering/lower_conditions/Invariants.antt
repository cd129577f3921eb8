use Rattle.std.proofs.Common.{◌≡◌, ◌++◌, drop}
use Rattle.guest_code.specs.{Code.condition_of, Program.names_view, inner.Emission.objects_in}
use Rattle.guest_code.proofs.lowering.lower_conditions.Given as goal

abbrev pub invariant-loop-declaration : goal.invariant-loop-declaration
invariant-loop-declaration l = names_view l.all.items ++ objects_in condition_of
    (drop l.declaration-index l.declarations) ≡ objects_in condition_of l.declarations
