use Rattle.std.proofs.Common.{subst, IfOk, IfNone, IfSome, List, sym, ◌∙◌, refl}
use Rattle.std.specs.Arc.{arc_value}
use Rattle.walk_items.specs.Items.{ItemView}
use Rattle.book.specs.{Books.{AreOpenAt, StandInOrder}, ItemLists.all_of}
use Rattle.book.proofs.{PackedItems.still_own, TakenOver.{none_there, unpacked_only}}
use Rattle.book.proofs.item_list.ItemList.unpack_and_find.Goals as goal

pub find_in_order-requires-clause-program : goal.find_in_order-requires-clause-program
find_in_order-requires-clause-program c =
    let p = arc_value c.args.program.now in (
      p,
      still_own p c.args.self.now c.unpack_from.new.self c.unpack_from.ensures.same
          c.requires.unpacked,
      c.requires.program,
    )

pub find_in_order-requires-2-clause-program : goal.find_in_order-requires-2-clause-program
find_in_order-requires-2-clause-program c =
    let p = arc_value c.args.program.now in (
      p,
      still_own p c.args.self.now c.unpack_from-2.new.self
          (c.unpack_from-2.ensures.same ∙ c.unpack_from.ensures.same) c.requires.unpacked,
      c.requires.program,
    )

pub returns-in-Some-clause-there : goal.returns-in-Some-clause-there
returns-in-Some-clause-there c =
    let p = arc_value c.args.program.now in
    subst (λ o. IfSome o (λ v.
    AreOpenAt (all_of p c.args.self.now) c.args.items.now c.args.places.now v.items))
    c.in-Some.is
    (subst (λ (all : List ItemView). IfSome c.in_ok-found.field-0 (λ v.
    AreOpenAt all c.args.items.now c.args.places.now v.items)) c.unpack_from.ensures.same
    (c.in_ok-found.ensures.there p))

pub returns-clause-there : goal.returns-clause-there
returns-clause-there c =
    subst (λ (all : List ItemView). IfOk c.find_in_order-2.result (λ o. IfSome o (λ v.
    AreOpenAt all c.args.items.now c.args.places.now v.items)))
    (c.unpack_from-2.ensures.same ∙ c.unpack_from.ensures.same)
    (c.find_in_order-2.ensures.there (arc_value c.args.program.now))

-- nothing is packed any more
pub returns-clause-none : goal.returns-clause-none
returns-clause-none c =
    let p = arc_value c.args.program.now in
    let list = c.unpack_from-2.new.self in
    let none = none_there list.packed 0 c.in_ok-unpack_from-2.ensures.unpacked refl in
    subst (λ (all : List ItemView). IfOk c.find_in_order-2.result (λ o. IfNone o
    (StandInOrder all c.args.items.now c.args.places.now → ⊥)))
    (sym (unpacked_only p list none)
    ∙ (c.unpack_from-2.ensures.same ∙ c.unpack_from.ensures.same))
    c.find_in_order-2.ensures.none
