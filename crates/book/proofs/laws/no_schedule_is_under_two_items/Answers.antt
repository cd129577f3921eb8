use Rattle.std.proofs.Common.{arith}
use Rattle.semantics_schedules.specs.Schedules.{begins_with}
use Rattle.walk_items.proofs.{Covers.at_most_one, WalkedItems.one_place}
use Rattle.book.specs.Books.{items_left}
use Rattle.book.proofs.laws.no_schedule_is_under_two_items.Goals as goal

pub returns : goal.returns
returns c = λ b v i j d h l k e.
    one_place (items_left b) v i j d
    (let a = h.split.apart v in
    let c = at_most_one (begins_with b.of.prefix v) in
    omega (arith, a, c)) l k e
