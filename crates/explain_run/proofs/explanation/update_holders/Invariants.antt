use Rattle.std.proofs.Common.{◌≡◌, ◌≤◌, ◌<◌, ℕ, get_or, None}
use Rattle.semantics.specs.Machine.{owner_of}
use Rattle.explain_run.specs.inner.Carrying.{holder_after}
use Rattle.explain_run.proofs.explanation.update_holders.Given as goal

abbrev pub invariant-loop-m : goal.invariant-loop-m
invariant-loop-m l = record {
  done : (k : ℕ) → k < l.m →
      get_or l.holders k None
      ≡ holder_after (get_or l.fn.holders k None) (owner_of l.state k) l.at;
  left : (k : ℕ) → l.m ≤ k → get_or l.holders k None ≡ get_or l.fn.holders k None;
}
