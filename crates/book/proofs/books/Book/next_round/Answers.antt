use Rattle.std.proofs.Common.{refl, sym, subst}
use Rattle.walk_items.specs.Items.{AreOf}
use Rattle.book.proofs.{BookFields.book_of, OpenItems.{open_run, unpacked_own, run_of}}
use Rattle.book.proofs.books.Book.next_round.Goals as goal

pub clone_last_into-requires-clause-unpacked : goal.clone_last_into-requires-clause-unpacked
clone_last_into-requires-clause-unpacked c =
    subst (λ p. AreOf p c.self.inside.open_items.unpacked) (sym c.shared_program.ensures)
    (unpacked_own (book_of c.self.inside) c.self.inside.open_items refl c.self.invariant.0)

pub clone_last_into-requires-clause-run : goal.clone_last_into-requires-clause-run
clone_last_into-requires-clause-run c =
    let b = book_of c.self.inside in
    run_of c.self.inside.open_items.packed c.shared_program.ensures
    (open_run b c.self.inside.open_items refl c.self.invariant.0)
