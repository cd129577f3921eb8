use Rattle.std.proofs.Common.{rules, ◌≡◌, ◌∙◌, ◌<◌, ◌++◌, [], false, true, not, ◌&&◌, refl, ap, sym, subst, get_or, length, set, slice_get, Some, inr}
use Rattle.std.{specs.Arc.arc_value, specs.List.All, proofs.lemmas.List.map-set}
use Rattle.walk_items.specs.{Items.{IsItem, AreOf}, Walks.{items_at, listed_if}}
use Rattle.walk_items.proofs.{ListParts.all_right, Listed.listed_items}
use Rattle.book.specs.{Books.{Keeps, HaveSettled}, ItemLists.{ListView, all_of}}
use Rattle.book.specs.Lending.{LendingView, Has, as_book, lending_view}
use Rattle.book.proofs.LendingFields.{lending_of}
use Rattle.book.proofs.Lent.{lent_at, set_same, of_worker, is_loan, came_back, settled_loan}
use Rattle.book.proofs.OpenItems.{waiting_run, run_of, same_of, more_of}
use Rattle.book.proofs.TakenOver.{grown, still_there, taken_back}
use Rattle.book.proofs.lending.LendingBook.settle.Goals.{In_ok-reserve, After-drop-none-inside-in-Err-2, After-drop-none-inside-3}
use Rattle.book.proofs.lending.LendingBook.settle.Goals as goal

pub has_same_items-requires-clause-run : goal.has_same_items-requires-clause-run
has_same_items-requires-clause-run c =
    let i = c.self.inside in
    let p = i.of.program in
    let lent = c.in-Some.lent.now in
    let there : c.args.worker < length i.lent.items = search rules in
    let at : lent ≡ get_or i.lent.items c.args.worker lent = search rules in
    run_of lent.packed c.shared_program-program.ensures
    (is_loan p lent (of_worker (lending_of i) c.args.worker (all_of p lent)
    (lent_at p i.lent.items c.args.worker lent there at) c.self.invariant)).run

pub has_same_items-requires-clause-unpacked : goal.has_same_items-requires-clause-unpacked
has_same_items-requires-clause-unpacked c =
    let i = c.self.inside in
    let p = i.of.program in
    let lent = c.in-Some.lent.now in
    let there : c.args.worker < length i.lent.items = search rules in
    let at : lent ≡ get_or i.lent.items c.args.worker lent = search rules in
    subst (λ q. AreOf q lent.unpacked) (sym c.shared_program-program.ensures)
    (is_loan p lent (of_worker (lending_of i) c.args.worker (all_of p lent)
    (lent_at p i.lent.items c.args.worker lent there at) c.self.invariant)).own

pub returns-then-not-branch-clause-not_taken : goal.returns-then-not-branch-clause-not_taken
returns-then-not-branch-clause-not_taken c = λ e. inr (λ has.
    let i = c.self.inside in
    let p = i.of.program in
    let lent : ListView = c.in-Some.lent.now in
    let loan : ListView = c.loan.inside.list in
    let there : c.args.worker < length i.lent.items = search rules in
    let at : lent ≡ get_or i.lent.items c.args.worker lent = search rules in
    let mine : slice_get (lending_of i).lent c.args.worker ≡ Some (all_of p lent) =
    lent_at p i.lent.items c.args.worker lent there at in
    let its : slice_get (lending_of i).lent c.args.worker ≡ Some (all_of p loan) =
    subst (λ (l : ListView). Has (lending_of i) c.args.worker (all_of p l)) (sym c.loan.view_is)
    (subst (λ (z : LendingView). Has z c.args.worker (all_of z.of.program c.args.loan.now))
    (sym c.self.view_is) has) in
    let same : all_of p lent ≡ all_of p loan = cc in
    let of_own : all_of (arc_value c.shared_program-program.result.now) lent
    ≡ all_of (arc_value c.shared_program-program.result.now) loan =
    same_of lent loan (sym c.shared_program-program.ensures) same in
    let yes : c.in_ok-has_same_items.field-0 ≡ true = c.in_ok-has_same_items.ensures.1 of_own in
    let no : c.in_ok-has_same_items.field-0 ≡ false = c.if-not-branch.true in
    absurd (cc))

-- the worker has the items of the loan
has : (c : In_ok-reserve) →
    Has c.args.self.now c.args.worker (all_of c.args.self.now.of.program c.args.loan.now)
has c =
    let i = c.self.inside in
    let p = i.of.program in
    let lent : ListView = c.in-Some.lent.now in
    let there : c.args.worker < length i.lent.items = search rules in
    let at : lent ≡ get_or i.lent.items c.args.worker lent = search rules in
    let yes : c.in_ok-has_same_items.field-0 ≡ true = search rules in
    let same : all_of p lent ≡ all_of p c.args.loan.now =
    same_of lent c.loan.inside.list c.shared_program-program.ensures
    (c.in_ok-has_same_items.ensures.0 yes) ∙ ap (all_of p) c.loan.view_is in
    subst (λ (z : LendingView). Has z c.args.worker (all_of z.of.program c.args.loan.now))
    c.self.view_is
    (subst (Has (lending_of i) c.args.worker) same
    (lent_at p i.lent.items c.args.worker lent there at))

lists : (c : In_ok-reserve) → (c.args.self.now.lists && not c.args.found.now.lists) ≡ false
lists c = search rules

keeps : (c : In_ok-reserve) → Keeps (as_book c.args.self.now)
keeps c = subst (λ (z : LendingView). Keeps (as_book z)) c.self.view_is c.self.invariant

pub append_prefixes-requires : goal.append_prefixes-requires
append_prefixes-requires c =
    let d = (goal.at.append_prefixes-requires c).In_ok-reserve in
    let v : LendingView = c.args.self.now in
    let found = c.args.found.now in
    let after = came_back v c.args.worker found in
    let run : All IsItem (v.deferred ++ listed_if v.lists (items_at v.of.program found.deferred)) =
    waiting_run (as_book after)
    (settled_loan v c.args.worker _ found (has d) (keeps d) (lists d) c.requires.walked).1 in
    run_of c.listed_prefixes-listed.result.now c.shared_program-program.ensures
    (subst (λ ps. All IsItem (items_at c.self.inside.of.program ps))
    (sym c.listed_prefixes-listed.ensures)
    (subst (λ (z : LendingView). All IsItem
    (items_at z.of.program (listed_if z.lists found.deferred)))
    (sym c.self.view_is)
    (subst (All IsItem) (sym (listed_items v.of.program v.lists found.deferred))
    (all_right IsItem v.deferred (listed_if v.lists (items_at v.of.program found.deferred)) run))))

-- the book is as before where the sum was refused
not_joined : (c : After-drop-none-inside-in-Err-2) → lending_view c.self.inside.of
    c.self.inside.mode c.join_in.new.self c.reserve.new.self
    (set c.self.inside.lent.items c.args.worker c.in-Some.lent.now) c.truncate.new.self
    c.self.inside.lists c.self.inside.quick ≡ lending_of c.self.inside
not_joined c =
    let i = c.self.inside in
    let p = i.of.program in
    let b = lending_of i in
    let lent : ListView = c.in-Some.lent.now in
    let there : c.args.worker < length i.lent.items = search rules in
    let at : lent ≡ get_or i.lent.items c.args.worker lent = search rules in
    let free = still_there p i.free c.reserve.new.self b.free refl c.reserve.ensures.packed
    c.reserve.ensures.unpacked in
    let mine = map-set (all_of p) i.lent.items c.args.worker lent
    ∙ set_same b.lent c.args.worker (all_of p lent)
    (lent_at p i.lent.items c.args.worker lent there at) in
    let put_off = taken_back b.deferred (items_at p c.listed_prefixes-listed.result.now)
    (all_of p c.append_prefixes.new.self) (all_of p c.truncate.new.self)
    c.len-deferred_len.result
    (more_of c.append_prefixes.new.self i.deferred c.listed_prefixes-listed.result.now
    c.shared_program-program.ensures c.in_ok-append_prefixes.ensures.all)
    (c.len-deferred_len.ensures p) (c.truncate.ensures.items p) in
    λ k. record b {
      finished = c.in-Err.ensures.joined k;
      free = free k;
      lent = mine k;
      deferred = put_off k;
    }

pub invariant_of-self-in-Err : goal.invariant_of-self-in-Err
invariant_of-self-in-Err c =
    subst (λ (z : LendingView). Keeps (as_book z)) (sym (not_joined c)) c.self.invariant

pub returns-in-Err-clause-same : goal.returns-in-Err-clause-same
returns-in-Err-clause-same c = λ e. not_joined c ∙ c.self.view_is

-- the book where the walks are settled
settled : (c : After-drop-none-inside-3) → lending_view c.self.inside.of
    c.self.inside.mode c.join_in.new.self c.append.new.self
    (set c.self.inside.lent.items c.args.worker c.clear.new.self) c.append_prefixes.new.self
    c.self.inside.lists c.self.inside.quick
    ≡ came_back c.args.self.now c.args.worker c.args.found.now
settled c =
    let i = c.self.inside in
    let p = i.of.program in
    let b = lending_of i in
    let found = c.args.found.now in
    let free = grown p c.reserve.new.self c.append.new.self found.rest.items
    c.append.ensures.packed c.append.ensures.unpacked
    ∙ ap (λ is. is ++ found.rest.items)
    (still_there p i.free c.reserve.new.self b.free refl c.reserve.ensures.packed
    c.reserve.ensures.unpacked) in
    let none : all_of p c.clear.new.self ≡ [] =
    λ k. items_at p (c.clear.ensures.packed k) ++ c.clear.ensures.unpacked k in
    let mine = map-set (all_of p) i.lent.items c.args.worker c.clear.new.self
    ∙ ap (set b.lent c.args.worker) none in
    let put_off = more_of c.append_prefixes.new.self i.deferred c.listed_prefixes-listed.result.now
    c.shared_program-program.ensures c.in_ok-append_prefixes.ensures.all
    ∙ ap (λ is. b.deferred ++ is)
    (ap (items_at p) c.listed_prefixes-listed.ensures ∙ listed_items p b.lists found.deferred) in
    (λ k. record b {
      finished = c.in_default-join_in.ensures.joined k;
      free = free k;
      lent = mine k;
      deferred = put_off k;
    })
    ∙ ap (λ (z : LendingView). came_back z c.args.worker found) c.self.view_is

pub invariant_of-self-2 : goal.invariant_of-self-2
invariant_of-self-2 c =
    let d = (goal.at.invariant_of-self-2 c).In_ok-reserve in
    subst (λ (z : LendingView). Keeps (as_book z)) (sym (settled c))
    (settled_loan c.args.self.now c.args.worker _ c.args.found.now (has d) (keeps d) (lists d)
    c.requires.walked).1

pub returns-clause-taken : goal.returns-clause-taken
returns-clause-taken c = λ f e.
    let d = (goal.at.returns-clause-taken c).In_ok-reserve in
    subst (λ (z : LendingView). HaveSettled (as_book c.args.self.now) f.walks (as_book z))
    (sym (settled c))
    (settled_loan c.args.self.now c.args.worker _ c.args.found.now (has d) (keeps d) (lists d) f).0

pub returns-clause-lent : goal.returns-clause-lent
returns-clause-lent c = λ e. ap (λ (z : LendingView). z.lent) (settled c)
