use Rattle.std.proofs.Common.{◌≡◌, map, take}
use Rattle.serde_json.specs.View.{view}
use Rattle.runner_report.specs.ReportText.{end_data}
use Rattle.runner_report.proofs.printing.ends_value.Given as goal

abbrev pub invariant-loop-end : goal.invariant-loop-end
invariant-loop-end l = map view l.ends.items ≡ map end_data (take l.end-index l.fn.summary.ends)
