use Rattle.std.proofs.Common.{◌≡◌, ℕ, ◌<◌, length, get_or}
use Rattle.guest_code.specs.declared.program.Instruction.TheVariants.{Skip}
use Rattle.explain_waits.specs.inner.Settling.{IsSettledAt}
use Rattle.explain_waits.proofs.ways.settled_code.Given as goal

abbrev pub invariant-loop-at : goal.invariant-loop-at
invariant-loop-at l = record {
  count : length l.settled.items ≡ l.at;
  each : (k : ℕ) → k < l.at →
      IsSettledAt l.code l.place l.locals k (get_or l.settled.items k (Skip 0));
}
