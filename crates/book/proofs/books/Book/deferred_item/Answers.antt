use Rattle.std.proofs.Common.{refl}
use Rattle.book.proofs.{BookFields.book_of, OpenItems.{deferred_run, run_of}}
use Rattle.book.proofs.books.Book.deferred_item.Goals as goal

pub item-requires-clause-run : goal.item-requires-clause-run
item-requires-clause-run c =
    let b = book_of c.self.inside in
    run_of c.self.inside.deferred.packed c.shared_program.ensures
    (deferred_run b c.self.inside.deferred refl c.self.invariant.0)
