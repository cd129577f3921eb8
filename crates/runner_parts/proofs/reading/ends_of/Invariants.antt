use Rattle.std.proofs.Common.{◌≡◌, List, All, FitsSigned, map, take}
use Rattle.std.specs.Int.{w64}
use Rattle.semantics.specs.View.{View}
use Rattle.serde_json.specs.View.{view}
use Rattle.runner_report.specs.ReportText.{end_data}
use Rattle.runner_parts.proofs.reading.ends_of.Given as goal

abbrev pub invariant-loop-value : goal.invariant-loop-value
invariant-loop-value l = (views : List View) → All (λ v. All (FitsSigned w64) v.vars) views
    → map view l.value-items ≡ map end_data views
    → l.ends.items ≡ take l.value-index views
