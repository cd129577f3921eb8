use Rattle.std.proofs.Common.{◌≡◌, ◌<◌}
use Rattle.runner.specs.inner.Shrinking.{HasLess}
use Rattle.runner.proofs.alone.Lone.walk_and_settle_each.Given as goal

abbrev pub invariant-loop-item : goal.invariant-loop-item
invariant-loop-item l = record {
  start : l.item-index ≡ 0 → l.book ≡ l.fn.book;
  less : 0 < l.item-index → HasLess l.fn.book l.book;
  of : l.book.of ≡ l.fn.book.of;
  walker : l.self.walker ≡ l.fn.self.walker;
}
