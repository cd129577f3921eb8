use Rattle.walk_items.proofs.Splits.{split_part}
use Rattle.book.proofs.laws.finished_is_under_no_open_item.Goals as goal

pub returns : goal.returns
returns c = λ b h.
    split_part b.mode b.of b.finished b.open_items b.deferred h.within h.split
