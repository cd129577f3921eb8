use Rattle.walk_items.{specs.Walks.IsBelow, proofs.ListParts.all_left, proofs.Splits.split_part}
use Rattle.book.proofs.{Kept.{kept_whole, kept_within, kept_schedules}, OpenItems.left_below}
use Rattle.book.proofs.laws.every_book_splits.Goals as goal

pub returns-clause-below : goal.returns-clause-below
returns-clause-below c = λ b h.
    all_left (IsBelow b.of) b.open_items b.deferred (left_below b h)

pub returns-clause-schedules : goal.returns-clause-schedules
returns-clause-schedules c = λ b h. kept_schedules b h

pub returns-clause-finished : goal.returns-clause-finished
returns-clause-finished c = λ b h e.
    split_part b.mode b.of b.finished b.open_items h.put
    (kept_within b h) (kept_whole b h e).split
