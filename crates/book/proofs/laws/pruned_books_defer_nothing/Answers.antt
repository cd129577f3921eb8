use Rattle.walk_items.proofs.Splits.{pruned_none}
use Rattle.book.proofs.laws.pruned_books_defer_nothing.Goals as goal

pub returns : goal.returns
returns c = λ b once e h. pruned_none b.mode once b.of b.open_items b.deferred e h.split.cut
