-- The book that the fields of one that lends make.
use Rattle.std.proofs.Common.{◌≡◌, ℕ, false, List, [], ◌++◌, map, replicate, ap, sym, ◌∙◌}
use Rattle.book.specs.ItemLists.{ListView, all_of}
use Rattle.book.specs.Lending.{LendingView, lending_view, as_book, all_lent}
use Rattle.book.{specs.declared.lending.LendingBook.TheInside.Inside, proofs.BookFields.book_of}
use Rattle.book.proofs.Lent.{none_lent}
use Rattle.book.specs.declared.books.Book.TheInside as whole

abbrev pub lending_of : Inside → LendingView
lending_of i =
    lending_view i.of i.mode i.finished i.free i.lent.items i.deferred i.lists i.quick

-- where nothing is lent it is the book that it was
pub not_lent_yet : (i : whole.Inside) (lent : List ListView) (n : ℕ) → i.dropped ≡ false →
    map (all_of i.of.program) lent ≡ replicate n [] →
    as_book (lending_view i.of i.mode i.finished i.open_items lent i.deferred i.lists i.quick)
    ≡ book_of i
not_lent_yet i lent n all none =
    let b = book_of i in
    λ k. record b {
      open_items = (ap (λ ls. all_lent ls ++ b.open_items) none
          ∙ ap (λ is. is ++ b.open_items) (none_lent n)) k;
      dropped = sym all k;
    }
