use Rattle.walk_items.proofs.Splits.{split_full}
use Rattle.book.proofs.laws.nothing_is_walked_twice.Goals as goal

pub returns : goal.returns
returns c = λ b h. split_full b.mode b.of b.finished b.open_items b.deferred h.split h.within
