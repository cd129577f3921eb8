use Rattle.std.proofs.Common.{◌≡◌, ◌∙◌, ◌+◌, ◌<◌, ◌≤◌, ◌++◌, ap, sym, subst, arith, length, get_or, take}
use Rattle.std.proofs.lemmas.List.{length-map, take_all}
use Rattle.walk_summary.specs.Summaries.{cut}
use Rattle.book.specs.{ItemLists.{ListView, all_of}, Lending.{LendingView, all_lent}}
use Rattle.book.proofs.{LendingFields.lending_of, Lent.{lent_at, counted_more}}
use Rattle.book.proofs.lending.LendingBook.progress.Goals as goal

pub loop-list-preserved : goal.loop-list-preserved
loop-list-preserved c =
    let i = c.self.inside in
    let p = i.of.program in
    let b = lending_of i in
    let k = c.loop-list.list-index in
    let l : ListView = c.list-item.result in
    let there : k < length i.lent.items =
    omega (arith, c.loop-list-test.true, ap length c.deref-list-items.ensures.value) in
    let at : l ≡ get_or i.lent.items k l =
    c.list-item.is ∙ ap (λ ls. get_or ls k l) c.deref-list-items.ensures.value in
    let before : c.loop-list.open_items ≡ cut (length (all_lent (take k b.lent) ++ b.free)) =
    subst (λ (z : LendingView). c.loop-list.open_items
    ≡ cut (length (all_lent (take k z.lent) ++ z.free))) (sym c.self.view_is)
    c.loop-list.invariant in
    let more = counted_more b.lent k (all_of p l) b.free (lent_at p i.lent.items k l there at) in
    subst (λ (z : LendingView). c.saturating_add-open_items.result
    ≡ cut (length (all_lent (take (k + 1) z.lent) ++ z.free))) c.self.view_is
    (omega (arith, before, more, c.saturating_add-open_items.ensures, c.len.ensures p))

pub returns-clause-open_items : goal.returns-clause-open_items
returns-clause-open_items c =
    let i = c.self.inside in
    let p = i.of.program in
    let k = c.loop-list.list-index in
    let v : LendingView = c.args.self.now in
    let over : length v.lent ≤ k =
    subst (λ (z : LendingView). length z.lent ≤ k) c.self.view_is
    (omega (
      arith,
      length-map i.lent.items (all_of p),
      ap length c.deref-list-items.ensures.value,
      c.loop-list-test.false,
    )) in
    c.loop-list.invariant ∙ ap (λ ls. cut (length (all_lent ls ++ v.free))) (take_all k v.lent over)
