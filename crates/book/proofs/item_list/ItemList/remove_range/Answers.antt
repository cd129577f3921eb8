use Rattle.std.proofs.Common.{◌≡◌, ◌-◌, ◌∙◌, ◌++◌, ap, arith, length}
use Rattle.std.{specs.List.remove_range, proofs.lemmas.List.length-map}
use Rattle.walk_items.specs.{Items.item_at, Walks.items_at}
use Rattle.book.{specs.ItemLists.all_of, proofs.Lists.range_right}
use Rattle.book.proofs.item_list.ItemList.remove_range.Goals as goal

pub returns-clause-items : goal.returns-clause-items
returns-clause-items c = λ p.
    let i = c.self.inside in
    let n = length-map i.packed (item_at p) in
    let v = ap (λ l. length l.packed) c.self.view_is in
    let a : c.args.first - c.len-packed.result ≡ c.args.first - length (items_at p i.packed) =
    omega (arith, n, c.len-packed.ensures.length) in
    let b : c.args.end - c.len-packed.result ≡ c.args.end - length (items_at p i.packed) =
    omega (arith, n, c.len-packed.ensures.length) in
    ap (λ is. items_at p i.packed ++ is) (c.drop-drain.ensures.items ∙ (c.drain.ensures.kept
    ∙ (λ k. remove_range i.unpacked.items (a k) (b k))))
    ∙ (range_right (items_at p i.packed) i.unpacked.items c.args.first c.args.end
    (omega (arith, n, v, c.requires.unpacked)) c.requires.range
    ∙ ap (λ l. remove_range (all_of p l) c.args.first c.args.end) c.self.view_is)
