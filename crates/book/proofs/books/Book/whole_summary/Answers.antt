use Rattle.std.proofs.Common.{rules, ◌≡◌, ◌∙◌, [], false, ap, arith}
use Rattle.walk_items.specs.Items.{item_sum}
use Rattle.book.specs.Books.{BookView}
use Rattle.book.proofs.{BookFields.book_of, BoundedSums.{closed_sum, never_dropped}, Lists.no_items}
use Rattle.book.proofs.books.Book.whole_summary.Goals as goal

pub returns-then-len-eq0-clause-whole : goal.returns-then-len-eq0-clause-whole
returns-then-len-eq0-clause-whole c =
    let b = book_of c.self.inside in
    let q : b.quick ≡ false = search rules in
    let none : b.open_items ≡ [] =
    no_items b.open_items (omega (arith, c.len.ensures b.of.program, c.if-len-eq0.true)) in
    closed_sum b c.self.invariant.0 (never_dropped b c.self.invariant.0 q) none
    ∙ ap (λ (z : BookView). item_sum z.mode z.of) c.self.view_is
