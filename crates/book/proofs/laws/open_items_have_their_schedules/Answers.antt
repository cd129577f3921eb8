use Rattle.walk_items.{specs.Walks.IsBelow, proofs.ListParts.all_left, proofs.WalkedItems.rest_has}
use Rattle.book.proofs.laws.open_items_have_their_schedules.Goals as goal

pub returns-clause-below : goal.returns-clause-below
returns-clause-below c = λ b h.
    all_left (IsBelow b.of) b.open_items b.deferred h.split.below

pub returns-clause-schedules : goal.returns-clause-schedules
returns-clause-schedules c = λ b h.
    rest_has b.mode b.of b.finished b.open_items b.deferred h.split
