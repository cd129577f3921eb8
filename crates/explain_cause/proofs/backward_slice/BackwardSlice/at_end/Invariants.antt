use Rattle.std.proofs.Common.{◌≡◌, ℕ, ◌<◌, take, length}
use Rattle.std.specs.List.{count_by}
use Rattle.guest_code.specs.declared.limits.TheConstants.{THREADS, VARIABLES}
use Rattle.explain_cause.specs.{Events.is_use, inner.Keeping.count}
use Rattle.explain_cause.proofs.backward_slice.BackwardSlice.at_end.Given as goal

abbrev pub invariant-loop-event : goal.invariant-loop-event
invariant-loop-event l = record {
  counted : (t x : ℕ) → t < THREADS → x < VARIABLES →
      count l.uses t x ≡ count_by (is_use t x) (take l.event-index l.events);
  all : length l.uses ≡ THREADS;
}
