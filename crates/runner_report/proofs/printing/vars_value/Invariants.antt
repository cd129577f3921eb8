use Rattle.std.proofs.Common.{◌≡◌, map, take, ℤ}
use Rattle.serde_json.specs.{Data.number, Find.of_integer, View.view}
use Rattle.runner_report.proofs.printing.vars_value.Given as goal

abbrev pub invariant-loop-value : goal.invariant-loop-value
invariant-loop-value l =
    map view l.items.items ≡ map (λ (z : ℤ). number (of_integer z)) (take l.value-index l.values)
