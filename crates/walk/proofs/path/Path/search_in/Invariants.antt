use Rattle.std.proofs.Common.{◌≡◌, ◌≤◌, ◌+◌, false, []}
use Rattle.semantics.specs.Mask.{one_if}
use Rattle.walk.specs.inner.WalkerInvariant.{GoesOn, still_open, turns_left}
use Rattle.walk.proofs.path.Path.search_in.Given as goal

abbrev pub invariant-loop-going : goal.invariant-loop-going
invariant-loop-going l = record {
  search : GoesOn l.mode l.item
      l.fn.self l.fn.found (still_open l.mode l.item.program l.fn.self)
      l.self l.found (still_open l.mode l.item.program l.self);
  few : l.found.part.tried ≤ l.limit;
  over : l.going ≡ false → still_open l.mode l.item.program l.self ≡ [];
}

abbrev pub decreases-loop-going : goal.decreases-loop-going
decreases-loop-going l = turns_left l.mode l.item.program l.self + one_if l.going
