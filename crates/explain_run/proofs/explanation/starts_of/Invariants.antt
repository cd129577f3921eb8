use Rattle.std.proofs.Common.{◌≡◌, ℕ, length, Some}
use Rattle.std.specs.List.{slice_get}
use Rattle.explain_run.specs.{Explains.Begins, declared.explanation.Start.Start}
use Rattle.explain_run.proofs.explanation.starts_of.Given as goal

abbrev pub invariant-loop-t : goal.invariant-loop-t
invariant-loop-t l = record {
  count : length l.starts.items ≡ l.t;
  each : (t : ℕ) (begins : Start) → slice_get l.starts.items t ≡ Some begins →
      Begins l.program t begins;
}
