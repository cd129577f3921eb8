use Rattle.std.proofs.Common.{rules, refl, arith, ◌≡◌, ◌++◌, ◌∷◌, [], sym, subst, map, List, IsPermutation}
use Rattle.std.{specs.Arc.arc_value, specs.List.All, proofs.lemmas.List.Sorted.All-permutation}
use Rattle.walk_items.specs.{Items.{IsItem, ItemView}, Walks.items_at}
use Rattle.walk_items.proofs.ListParts.{all_left, all_right}
use Rattle.book.specs.{Books.Keeps, ItemLists.{ListView, all_of}}
use Rattle.book.{specs.Lending.{LendingView, as_book, all_lent}, proofs.LendingFields.lending_of}
use Rattle.book.proofs.Lent.{lists_back, all_back, open_runs, keeps_permuted}
use Rattle.book.proofs.lending.LendingBook.into_book.Goals as goal

pub append_list-requires : goal.append_list-requires
append_list-requires c =
    let p = arc_value c.shared_program-program.result.now in
    let l : ListView = c.in-Some.list in
    let left : List ListView = c.pop.new.self.items in
    let popped : c.loop-list.lent.items ≡ left ++ l ∷ [] = search rules in
    let all : List ItemView = (as_book c.args.self).open_items in
    let run : All IsItem all =
    open_runs c.args.self
    (subst (λ (z : LendingView). Keeps (as_book z)) c.self.view_is c.self.invariant) in
    all_left IsItem (items_at p l.packed) l.unpacked
    (all_right IsItem (all_of p c.loop-list.free) (all_of p l)
    (all_right IsItem (all_lent (map (all_of p) left)) (all_of p c.loop-list.free ++ all_of p l)
    (All-permutation IsItem all _
    (lists_back p all c.loop-list.lent.items left l c.loop-list.free popped c.loop-list.invariant)
    run)))

pub loop-list-preserved : goal.loop-list-preserved
loop-list-preserved c =
    let p = arc_value c.shared_program-program.result.now in
    let l : ListView = c.in-Some.list in
    let left : List ListView = c.pop.new.self.items in
    let popped : c.loop-list.lent.items ≡ left ++ l ∷ [] = search rules in
    let all : List ItemView = (as_book c.args.self).open_items in
    subst (λ is. IsPermutation all (all_lent (map (all_of p) left) ++ is))
    (sym c.in_ok-append_list.ensures.all)
    (lists_back p all c.loop-list.lent.items left l c.loop-list.free popped c.loop-list.invariant)

pub invariant_of-result : goal.invariant_of-result
invariant_of-result c =
    let i = c.self.inside in
    let p = i.of.program in
    let b = as_book (lending_of i) in
    let free : ListView = c.loop-list.free in
    let moved : IsPermutation b.open_items (all_of p free) =
    all_back p b.open_items c.loop-list.lent.items free
    (omega (arith, c.loop-list.lent.ok.0, c.in_default.ensures.cases.0))
    (subst (λ q. IsPermutation b.open_items
    (all_lent (map (all_of q) c.loop-list.lent.items) ++ all_of q free))
    c.shared_program-program.ensures
    (subst (λ (z : LendingView). IsPermutation (as_book z).open_items
    (all_lent (map (all_of (arc_value c.shared_program-program.result.now))
    c.loop-list.lent.items) ++ all_of (arc_value c.shared_program-program.result.now) free))
    (sym c.self.view_is) c.loop-list.invariant)) in (
      keeps_permuted b (all_of p free) refl moved c.self.invariant,
      tt,
    )
