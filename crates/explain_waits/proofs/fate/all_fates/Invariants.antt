use Rattle.std.proofs.Common.{◌≡◌, ℕ, ◌<◌, [], length, get_or}
use Rattle.explain_waits.specs.{Fates.Fates, inner.Rows.lists}
use Rattle.explain_waits.proofs.fate.all_fates.Given as goal

abbrev pub invariant-loop-t : goal.invariant-loop-t
invariant-loop-t l = record {
  count : length (lists l.all.items) ≡ l.t;
  each : (t : ℕ) → t < l.t → Fates l.program l.told t (get_or (lists l.all.items) t []);
}
