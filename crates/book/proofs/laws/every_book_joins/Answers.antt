use Rattle.walk_items.proofs.Splits.{split_sum}
use Rattle.book.{specs.Books.with_deferred, proofs.BoundedSums.thinned_bounded}
use Rattle.book.proofs.Kept.{kept_whole, kept_within, kept_thinned}
use Rattle.book.proofs.laws.every_book_joins.Goals as goal

pub returns-clause-whole : goal.returns-clause-whole
returns-clause-whole c = λ b h e.
    split_sum b.mode b.of b.finished b.open_items h.put
    (kept_within b h) (kept_whole b h e).split

pub returns-clause-bounded : goal.returns-clause-bounded
returns-clause-bounded c = λ b h e. thinned_bounded (with_deferred b h.put) (kept_thinned b h e)
