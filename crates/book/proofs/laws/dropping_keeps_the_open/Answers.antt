use Rattle.std.proofs.Common.{◌++◌, arith}
use Rattle.semantics_schedules.specs.Schedules.{begins_with}
use Rattle.walk_items.{specs.Walks.IsBelow, proofs.Covers.{at_most_one, covers-append}}
use Rattle.walk_items.proofs.ListParts.{all_left, all_right}
use Rattle.walk_items.proofs.WalkedItems.{HasItsOf, one_place, rest_has}
use Rattle.book.specs.Books.{items_left}
use Rattle.book.proofs.laws.dropping_keeps_the_open.Goals as goal

pub returns-clause-below : goal.returns-clause-below
returns-clause-below c = λ b t.
    all_right (IsBelow b.of) t.gone b.open_items
    (all_left (IsBelow b.of) (t.gone ++ b.open_items) b.deferred t.split.split.below)

pub returns-clause-schedules : goal.returns-clause-schedules
returns-clause-schedules c = λ b t.
    all_right (HasItsOf b.mode b.of) t.gone b.open_items
    (rest_has b.mode b.of b.finished (t.gone ++ b.open_items) b.deferred t.split.split)

pub returns-clause-apart : goal.returns-clause-apart
returns-clause-apart c = λ b v i j d t l k e.
    one_place (items_left b) v i j d
    (let a = t.split.split.apart v in
    let c = at_most_one (begins_with b.of.prefix v) in
    let x = covers-append v (t.gone ++ b.open_items) b.deferred in
    let y = covers-append v t.gone b.open_items in
    let z = covers-append v b.open_items b.deferred in
    omega (arith, a, c, x, y, z)) l k e
