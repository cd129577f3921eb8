use Rattle.walk_items.proofs.WalkedItems.{one_place}
use Rattle.book.{specs.Books.items_left, proofs.Kept.kept_apart}
use Rattle.book.proofs.laws.no_book_has_a_schedule_twice.Goals as goal

pub returns : goal.returns
returns c = λ b v i j d h l k e. one_place (items_left b) v i j d (kept_apart b h v) l k e
