use Rattle.std.proofs.Common.{◌≡◌, ◌+◌, ◌++◌, false, [], All}
use Rattle.semantics.specs.Mask.{one_if}
use Rattle.walk_items.specs.Items.{IsItem}
use Rattle.walk.specs.inner.WalkerInvariant.{IsPlace, still_open, turns_left}
use Rattle.walk.proofs.path.Path.drain.Given as goal

abbrev pub invariant-loop-going : goal.invariant-loop-going
invariant-loop-going l = record {
  place : IsPlace l.item.program l.self;
  items : All IsItem (still_open l.mode l.item.program l.self);
  rest : (l.rest.items ++ still_open l.mode l.item.program l.self)
      ≡ (l.initial.rest.items ++ still_open l.mode l.item.program l.initial.self);
  over : l.going ≡ false → still_open l.mode l.item.program l.self ≡ [];
}

abbrev pub decreases-loop-going : goal.decreases-loop-going
decreases-loop-going l = turns_left l.mode l.item.program l.self + one_if l.going
