use Rattle.walk_items.proofs.Splits.{split_sum}
use Rattle.book.proofs.laws.finished_and_open_join.Goals as goal

pub returns : goal.returns
returns c = λ b h.
    split_sum b.mode b.of b.finished b.open_items b.deferred h.within h.split
