use Rattle.std.proofs.Common.{◌≡◌, Bool}
use Rattle.runner.specs.inner.Judging.{IsAt, AreKept, bounds_left}
use Rattle.runner.proofs.alone.search_alone.Given as goal

abbrev pub invariant-loop-lone : goal.invariant-loop-lone
invariant-loop-lone g l = record {
  options : l.course.options ≡ l.fn.course.options;
  at : IsAt l.fn.course.book.of l.fn.course.options l.course.book;
  levels : (keeps : Bool) →
      AreKept keeps l.fn.course.book.of l.fn.course.book.mode l.fn.course.levels →
      AreKept keeps l.fn.course.book.of l.course.book.mode l.course.levels;
  walker : l.lone.walker ≡ l.fn.course.book.of.program;
}

abbrev pub decreases-loop-lone : goal.decreases-loop-lone
decreases-loop-lone g l = bounds_left l.fn.course.options.search l.course.book.mode
