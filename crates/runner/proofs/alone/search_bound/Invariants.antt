use Rattle.std.proofs.Common.{◌≡◌, ◌*◌, ◌+◌, length}
use Rattle.walk_items.specs.Items.{schedule_count}
use Rattle.runner.specs.inner.Judging.{IsAt}
use Rattle.runner.proofs.alone.search_bound.Given as goal

abbrev pub invariant-loop-book : goal.invariant-loop-book
invariant-loop-book g l = record {
  at : IsAt l.fn.book.of l.fn.options l.book;
  mode : l.book.mode ≡ l.fn.book.mode;
  walker : l.lone.walker ≡ l.fn.lone.walker;
}

abbrev pub decreases-loop-book : goal.decreases-loop-book
decreases-loop-book g l =
    schedule_count l.fn.book.mode l.book.open_items * 18446744073709551616
    + length l.book.open_items
