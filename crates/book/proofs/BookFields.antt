-- The book that a book's own fields make.
use Rattle.book.specs.{Books.{BookView, book_view}, declared.books.Book.TheInside.Inside}

abbrev pub book_of : Inside → BookView
book_of i =
    book_view i.of i.mode i.finished i.open_items i.deferred i.lists i.quick i.dropped
