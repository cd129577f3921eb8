use Rattle.std.proofs.Common.{◌≡◌, ◌+◌, ◌∙◌, ◌<◌, ap, sym, subst, arith, length, take, Some, slice_get, List, ℕ}
use Rattle.std.specs.{Arc.arc_value, List.All}
use Rattle.walk_items.specs.{Items.{IsItem, item_at}, Walks.items_at}
use Rattle.walk_prefixes.specs.PrefixLists.{last_of}
use Rattle.book.specs.ItemLists.{ListView, list_view, all_of}
use Rattle.book.proofs.PackedItems.{first_run, got-last, got-packed, if_ok}
use Rattle.book.proofs.item_list.ItemList.item.Goals as goal

pub last_item-requires-clause-run : goal.last_item-requires-clause-run
last_item-requires-clause-run c =
    let i = c.self.inside in
    let p = arc_value c.args.program.now in
    let is : c.truncate.new.self ≡ take (c.args.place + 1) i.packed =
    c.truncate.ensures ∙ ap (take (c.args.place + 1)) c.in_ok-prefixes.ensures in
    subst (λ (ws : List (List ℕ)). All IsItem (items_at p ws)) (sym is)
    (first_run p i.packed (c.args.place + 1)
    (subst (λ (l : ListView). All IsItem (items_at p l.packed)) (sym c.self.view_is)
    c.requires.run))

pub returns : goal.returns
returns c =
    let i = c.self.inside in
    let p = arc_value c.args.program.now in
    let is : c.truncate.new.self ≡ take (c.args.place + 1) i.packed =
    c.truncate.ensures ∙ ap (take (c.args.place + 1)) c.in_ok-prefixes.ensures in
    let low : c.args.place < length i.packed =
    omega (arith, c.if-packed-place.false, c.len-packed.ensures.length) in
    let l : ListView = list_view i.packed i.unpacked in
    if_ok c.last_item.result (λ x. x ≡ item_at p (last_of c.truncate.new.self)) _
    (λ x e. ap (λ m. slice_get (all_of p m) c.args.place) (sym c.self.view_is)
    ∙ (got-packed p l c.args.place (last_of (take (c.args.place + 1) i.packed)) low
    (got-last i.packed c.args.place low)
    ∙ ap (λ y. Some y) (sym (e ∙ ap (λ ws. item_at p (last_of ws)) is))))
    c.last_item.ensures
