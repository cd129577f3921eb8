use Rattle.std.proofs.Common.{◌≡◌, ◌-◌, ◌∙◌, ◌++◌, ap, subst, arith, length, drop, sym, min, List, OnOk}
use Rattle.std.{specs.Arc.arc_value, proofs.lemmas.List.length-map}
use Rattle.walk_items.specs.{Items.{ItemView, AreOf, item_at}, Walks.items_at}
use Rattle.book.{specs.ItemLists.{ListView, all_of}, proofs.PackedItems.last_of_both}
use Rattle.book.proofs.item_list.ItemList.clone_last_into.Goals as goal

pub returns-clause-items : goal.returns-clause-items
returns-clause-items c =
    let i = c.self.inside in
    let p = arc_value c.args.program.now in
    let most = c.args.most in
    let n = length-map i.packed (item_at p) in
    let count : c.min-count.result ≡ min (most - length i.unpacked.items) (length i.packed) =
    omega (
      arith,
      c.min-count.ensures,
      c.saturating_sub.ensures,
      c.len-unpacked.ensures,
      c.len.ensures.length,
      i.unpacked.ok.0,
    ) in
    let e : c.saturating_sub-2.result ≡ length i.unpacked.items - most =
    omega (arith, c.saturating_sub-2.ensures, c.len-unpacked.ensures, i.unpacked.ok.0) in
    let d : drop c.saturating_sub-2.result i.unpacked.items
    ≡ drop (length i.unpacked.items - most) i.unpacked.items =
    ap (λ k. drop k i.unpacked.items) e in
    let same =
    (λ k. c.in_ok-unpack_last_into.ensures.items k ++ d k)
    ∙ (last_of_both (items_at p i.packed) i.unpacked.items (length i.packed) most c.min-count.result
    (sym n) count
    ∙ ap (λ l. drop (length (all_of p l) - most) (all_of p l)) c.self.view_is) in
    subst (λ (is : List ItemView). OnOk c.push_copies.result (c.push_copies.new.items.items ≡ is)) same
    c.push_copies.ensures.items

pub returns-clause-program : goal.returns-clause-program
returns-clause-program c =
    let p = arc_value c.args.program.now in
    c.push_copies.ensures.program p
    (subst (λ (l : ListView). AreOf p l.unpacked) (sym c.self.view_is) c.requires.unpacked)
    c.unpack_last_into.ensures.program
