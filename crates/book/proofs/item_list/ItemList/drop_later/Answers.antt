use Rattle.std.proofs.Common.{◌≡◌, ◌++◌, length, not, sym, ◌∙◌, ◌+◌, ap, arith, length-append}
use Rattle.std.{specs.List.filter, proofs.lemmas.List.length-map}
use Rattle.std.proofs.lemmas.List.Elements.{filter-append}
use Rattle.guest_code.specs.Program.{Program}
use Rattle.walk_items.specs.{Items.{ItemView, item_at}, Walks.items_at}
use Rattle.walk_prefixes.{specs.PrefixLists.is_later, proofs.Later.left_and_dropped}
use Rattle.book.{specs.ItemLists.all_of, proofs.PackedItems.{items_left, length-all}}
use Rattle.book.proofs.item_list.ItemList.drop_later.Goals as goal

left : (c : goal.After-len-4) → (p : Program) → items_at p c.remove_later-packed.new.self
    ++ c.remove_later.new.items.items
    ≡ filter (λ j. not (is_later c.args.schedule.now j.prefix)) (all_of p c.args.self.now)
left c = λ p.
    let s = c.args.schedule.now in
    let i = c.self.inside in
    (λ k. items_at p (c.remove_later-packed.ensures.list k) ++ c.remove_later.ensures k)
    ∙ (ap (λ is. is ++ filter (λ j. not (is_later s j.prefix)) i.unpacked.items)
    (items_left p s i.packed)
    ∙ (sym (filter-append (λ (j : ItemView). not (is_later s j.prefix)) (items_at p i.packed)
    i.unpacked.items)
    ∙ ap (λ l. filter (λ j. not (is_later s j.prefix)) (all_of p l)) c.self.view_is))

pub returns-clause-items : goal.returns-clause-items
returns-clause-items c = left c

pub overflow_sub-result : goal.overflow_sub-result
overflow_sub-result c =
    let s = c.args.schedule.now in
    let i = c.self.inside in
    omega (
      arith,
      left_and_dropped (is_later s) i.packed,
      ap length c.remove_later-packed.ensures.list,
      left_and_dropped {A = ItemView} (λ j. is_later s j.prefix) i.unpacked.items,
      ap length c.remove_later.ensures,
    )

pub returns-clause-number : goal.returns-clause-number
returns-clause-number c = λ p.
    let s = c.args.schedule.now in
    let old = c.args.self.now in
    omega (
      arith,
      left_and_dropped {A = ItemView} (λ j. is_later s j.prefix) (all_of p old),
      length-all p old,
      ap length (left c p),
      length-append (items_at p c.remove_later-packed.new.self) c.remove_later.new.items.items,
      length-map c.remove_later-packed.new.self (item_at p),
      ap (λ l. length l.packed + length l.unpacked) c.self.view_is,
    )
