use Rattle.std.proofs.Common.{◌≡◌, ℤ, List, All, FitsSigned, map, take}
use Rattle.std.specs.Int.{w64}
use Rattle.serde_json.specs.{Data.number, Find.of_integer, View.view}
use Rattle.runner_parts.proofs.reading.values_of.Given as goal

abbrev pub invariant-loop-item : goal.invariant-loop-item
invariant-loop-item l = (zs : List ℤ) → All (FitsSigned w64) zs
    → map view l.item-items ≡ map (λ (z : ℤ). number (of_integer z)) zs
    → l.values.items ≡ take l.item-index zs
