use Rattle.std.proofs.Common.{◌≡◌, ◌-◌, ◌∙◌, ◌++◌, ap, arith, length, take}
use Rattle.guest_code.specs.Program.{Program}
use Rattle.walk_items.specs.Walks.{items_at}
use Rattle.book.{specs.ItemLists.all_of, proofs.PackedItems.cut-both}
use Rattle.book.proofs.item_list.ItemList.truncate.Goals as goal

pub returns : goal.returns
returns c =
    let i = c.self.inside in
    let n = c.args.length in
    let e : c.saturating_sub.result ≡ n - length i.packed =
    omega (arith, c.saturating_sub.ensures, c.len-packed.ensures.length) in
    let cut : (p : Program) → items_at p c.truncate.new.self ++ c.truncate-2.new.self.items
    ≡ take n (all_of p c.args.self.now) =
    λ p. (λ k. items_at p (c.truncate.ensures k) ++ c.truncate-2.ensures.items k)
    ∙ (ap (λ m. items_at p (take n i.packed) ++ take m i.unpacked.items) e
    ∙ (cut-both p i.packed i.unpacked.items n ∙ ap (λ l. take n (all_of p l)) c.self.view_is)) in
    record { items = cut }
