use Rattle.std.proofs.Common.{rules, ◌≡◌, ◌∙◌, ◌++◌, ◌<◌, [], refl, ap, sym, subst, arith, length, get_or, set, take, slice_get, List, ◌-◌}
use Rattle.std.proofs.lemmas.List.{map-set}
use Rattle.walk_items.specs.{Items.ItemView, Walks.items_at}
use Rattle.book.specs.{Books.Keeps, ItemLists.{ListView, all_of}}
use Rattle.book.specs.Lending.{LendingView, Lends, Reorders, IsLoanOf, Has, as_book, last_free, lending_view, lent_to}
use Rattle.book.proofs.LendingFields.{lending_of}
use Rattle.book.proofs.Lent.{lent_at, set_same, got_set, within, lends, reordered, same_order, of_worker, is_loan, same_loan}
use Rattle.book.proofs.{Lists.no_items, lending.LendingBook.lend.Goals.After-branch-move_last_into}
use Rattle.book.proofs.lending.LendingBook.lend.Goals as goal

-- the worker has nothing yet
idle : (c : After-branch-move_last_into) → Has (lending_of c.self.inside) c.args.worker []
idle c =
    let i = c.self.inside in
    let p = i.of.program in
    let there : c.args.worker < length i.lent.items = search rules in
    let at : c.in-Some.lent.now ≡ get_or i.lent.items c.args.worker c.in-Some.lent.now = search rules in
    let none : all_of p c.in-Some.lent.now ≡ [] =
    no_items _ (omega (arith, c.len.ensures p, c.if-len-gt0.false)) in
    subst (Has (lending_of i) c.args.worker) none
    (lent_at p i.lent.items c.args.worker c.in-Some.lent.now there at)

-- the book after the split
abbrev after : After-branch-move_last_into → LendingView
after c =
    let i = c.self.inside in
    lending_view i.of i.mode i.finished c.move_last_into.new.self
    (set i.lent.items c.args.worker c.move_last_into.new.other) i.deferred i.lists i.quick

abbrev these : After-branch-move_last_into → ListView → List ItemView
these c l = all_of c.self.inside.of.program l

lent_is : (c : After-branch-move_last_into) (items : List ItemView) →
    these c c.move_last_into.new.other ≡ items → (after c).lent
    ≡ set (lending_of c.self.inside).lent c.args.worker items
lent_is c items e =
    let i = c.self.inside in
    map-set (these c) i.lent.items c.args.worker c.move_last_into.new.other
    ∙ ap (set (lending_of i).lent c.args.worker) e

-- where memory was refused it is as before
as_before : (c : After-branch-move_last_into) →
    these c c.move_last_into.new.self ≡ (lending_of c.self.inside).free → these c c.move_last_into.new.other ≡ [] → after c ≡ lending_of c.self.inside
as_before c kept none =
    let b = lending_of c.self.inside in
    λ k. record b {
      free = kept k;
      lent = (lent_is c [] none ∙ set_same b.lent c.args.worker [] (idle c)) k;
    }

pub invariant_of-self-in_err-move_last_into : goal.invariant_of-self-in_err-move_last_into
invariant_of-self-in_err-move_last_into c =
    let d = (goal.at.invariant_of-self-in_err-move_last_into c).After-branch-move_last_into in
    let p = c.self.inside.of.program in
    subst (λ (z : LendingView). Keeps (as_book z))
    (sym (as_before d (c.in_err-move_last_into.ensures.kept p) (c.in_err-move_last_into.ensures.moved p)))
    c.self.invariant

pub returns-in_err-move_last_into-clause-book : goal.returns-in_err-move_last_into-clause-book
returns-in_err-move_last_into-clause-book c =
    let d = (goal.at.returns-in_err-move_last_into-clause-book c).After-branch-move_last_into in
    let p = c.self.inside.of.program in
    subst (λ (z : LendingView). Reorders (as_book c.args.self.now) (as_book z))
    (sym (as_before d (c.in_err-move_last_into.ensures.kept p) (c.in_err-move_last_into.ensures.moved p)
    ∙ c.self.view_is))
    (same_order (as_book c.args.self.now))

-- else the worker has the last ones
record Moved (c : After-branch-move_last_into) : Type 0 where
  kept : these c c.move_last_into.new.self
      ≡ take (length (lending_of c.self.inside).free - c.args.most) (lending_of c.self.inside).free
  moved : these c c.move_last_into.new.other ≡ last_free (lending_of c.self.inside) c.args.most

is_lent : (c : After-branch-move_last_into) → Moved c →
    after c ≡ lent_to (lending_of c.self.inside) c.args.worker c.args.most
is_lent c m =
    let b = lending_of c.self.inside in
    λ k. record b { free = m.kept k; lent = lent_is c (last_free b c.args.most) m.moved k }

reorders : (c : After-branch-move_last_into) → Moved c →
    Reorders (as_book (lending_of c.self.inside)) (as_book (after c))
reorders c m =
    let b = lending_of c.self.inside in
    subst (λ (z : LendingView). Reorders (as_book b) (as_book z)) (sym (is_lent c m))
    (lends b c.args.worker c.args.most (idle c))

keeps : (c : After-branch-move_last_into) → Moved c → Keeps (as_book (after c))
keeps c m =
    reordered (lending_of c.self.inside) (as_book (after c)) (reorders c m) c.self.invariant

pub invariant_of-self-in_err-clone_from : goal.invariant_of-self-in_err-clone_from
invariant_of-self-in_err-clone_from c =
    let p = c.self.inside.of.program in
    keeps (goal.at.invariant_of-self-in_err-clone_from c).After-branch-move_last_into (record {
      kept = c.in_ok-move_last_into.ensures.kept p;
      moved = c.in_ok-move_last_into.ensures.moved p;
    })

pub returns-in_err-clone_from-clause-book : goal.returns-in_err-clone_from-clause-book
returns-in_err-clone_from-clause-book c =
    let d = (goal.at.returns-in_err-clone_from-clause-book c).After-branch-move_last_into in
    let p = c.self.inside.of.program in
    subst (λ (z : LendingView). Reorders (as_book z) (as_book (after d))) c.self.view_is
    (reorders d (record {
      kept = c.in_ok-move_last_into.ensures.kept p;
      moved = c.in_ok-move_last_into.ensures.moved p;
    }))

pub invariant_of-self-2 : goal.invariant_of-self-2
invariant_of-self-2 c =
    let p = c.self.inside.of.program in
    keeps (goal.at.invariant_of-self-2 c).After-branch-move_last_into (record {
      kept = c.in_ok-move_last_into.ensures.kept p;
      moved = c.in_ok-move_last_into.ensures.moved p;
    })

pub returns-clause-book : goal.returns-clause-book
returns-clause-book c =
    let d = (goal.at.returns-clause-book c).After-branch-move_last_into in
    let p = c.self.inside.of.program in
    subst (λ (z : LendingView). Reorders (as_book z) (as_book (after d))) c.self.view_is
    (reorders d (record {
      kept = c.in_ok-move_last_into.ensures.kept p;
      moved = c.in_ok-move_last_into.ensures.moved p;
    }))

-- what the worker has is of the program
owned : (c : After-branch-move_last_into) → Moved c →
    IsLoanOf c.self.inside.of.program c.move_last_into.new.other
owned c m =
    let p = c.self.inside.of.program in
    let other : ListView = c.move_last_into.new.other in
    let lent : List (List ItemView) = (lending_of c.self.inside).lent in
    let has : Has (after c) c.args.worker (all_of p other) =
    ap (λ ls. slice_get ls c.args.worker) (lent_is c (all_of p other) refl)
    ∙ got_set lent c.args.worker (all_of p other) (within lent c.args.worker [] (idle c)) in
    is_loan p other (of_worker (after c) c.args.worker (all_of p other) has (keeps c m))

pub returns-clause-loan : goal.returns-clause-loan
returns-clause-loan c = λ e.
    let d = (goal.at.returns-clause-loan c).After-branch-move_last_into in
    let p = c.self.inside.of.program in
    subst (λ (z : LendingView). IsLoanOf z.of.program c.clone_from.new.self) c.self.view_is
    (same_loan p c.move_last_into.new.other c.clone_from.new.self c.in_ok-clone_from.ensures.packed
    c.in_ok-clone_from.ensures.unpacked
    (owned d (record {
      kept = c.in_ok-move_last_into.ensures.kept p;
      moved = c.in_ok-move_last_into.ensures.moved p;
    })))

pub returns-clause-lent : goal.returns-clause-lent
returns-clause-lent c = λ e.
    let d = (goal.at.returns-clause-lent c).After-branch-move_last_into in
    let p = c.self.inside.of.program in
    let m : Moved d = record {
      kept = c.in_ok-move_last_into.ensures.kept p;
      moved = c.in_ok-move_last_into.ensures.moved p;
    } in
    subst (λ (z : LendingView). Lends z c.args.worker c.args.most c.clone_from.new.self (after d))
    c.self.view_is (record {
      idle = idle d;
      copied = (λ k. items_at p (c.in_ok-clone_from.ensures.packed k)
          ++ c.in_ok-clone_from.ensures.unpacked k) ∙ m.moved;
      book = is_lent d m;
    })
