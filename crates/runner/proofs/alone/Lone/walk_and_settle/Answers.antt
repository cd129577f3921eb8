use Rattle.std.proofs.Common.{rules, ◌≡◌, ◌∙◌, [], ⊎_elim, inl, inr, sym, subst, Bool, true, false, Result, Ok, Err}
use Rattle.std.specs.declared.alloc.AllocError.{AllocError}
use Rattle.std.proofs.lemmas.List.Elements.{All-nil, All-cons}
use Rattle.walk_items.specs.{Items.{ItemView, AreOf}, declared.mode.Mode.Mode}
use Rattle.walk.specs.Founds.{HasAdded}
use Rattle.book.specs.Books.{BookView, drops}
use Rattle.runner.specs.inner.Shrinking.{HasLess, Went}
use Rattle.runner.proofs.Shrinks.{one_found, one_settled, not_open, thinned_less, thinned_went}
use Rattle.runner.proofs.alone.Lone.walk_and_settle.Goals as goal

pub returns-then-drops-clause-book : goal.returns-then-drops-clause-book
returns-then-drops-clause-book c =
    let b = c.args.book.now in
    let i = c.args.item.now in
    let d : drops b i ≡ true = search rules in
    subst (λ (new : BookView). Went b i (Ok tt) new) (sym c.drop_later-number.ensures.book)
    (thinned_went b i d)

pub settle_all-requires-clause-program : goal.settle_all-requires-clause-program
settle_all-requires-clause-program c =
    let b = c.args.book.now in
    subst (AreOf b.of.program) (sym c.from_ref.ensures.value)
    (All-cons (λ (i : ItemView). i.program ≡ b.of.program) c.args.item.now []
    (c.requires.item ∙ sym c.requires.book) (All-nil (λ (i : ItemView). i.program ≡ b.of.program)))

pub settle_all-requires-clause-walked : goal.settle_all-requires-clause-walked
settle_all-requires-clause-walked c =
    let b = c.args.book.now in
    let item = c.args.item.now in
    (one_found b item c.from_ref.result.now c.args.quota c.clear.new.found c.walk_into.new.found
    (c.requires.item ∙ sym c.requires.book) c.from_ref.ensures.value c.clear.ensures.part
    c.clear.ensures.rest c.clear.ensures.deferred
    (subst (λ (m : Mode). HasAdded m item c.args.quota c.clear.new.found c.walk_into.new.found)
    c.mode.ensures c.in_ok-walk_into.ensures.added)).0

pub returns-clause-book : goal.returns-clause-book
returns-clause-book c =
    let b = c.args.book.now in
    let item = c.args.item.now in
    let settled = c.settle_all.new.self in
    let h = one_found b item c.from_ref.result.now c.args.quota c.clear.new.found
    c.walk_into.new.found (c.requires.item ∙ sym c.requires.book) c.from_ref.ensures.value
    c.clear.ensures.part c.clear.ensures.rest c.clear.ensures.deferred
    (subst (λ (m : Mode). HasAdded m item c.args.quota c.clear.new.found c.walk_into.new.found)
    c.mode.ensures c.in_ok-walk_into.ensures.added) in
    let yes : c.settle_all.result ≡ Ok true = search rules in
    inl (subst (HasLess b) (sym c.drop_later-dropped.ensures.book)
    (thinned_less b settled
    (one_settled b settled c.from_ref.result.now c.args.quota c.walk_into.new.found c.requires.quota
    h.0 h.1 (c.settle_all.ensures.taken h.0 yes))))

not_both : (r : Result Bool AllocError) → r ≡ Ok false → r ≡ Ok true → ⊥
not_both (Ok true) e f = cc
not_both (Ok false) e f = cc
not_both (Err x) e f = cc

pub returns-then-not-branch-clause-book : goal.returns-then-not-branch-clause-book
returns-then-not-branch-clause-book c =
    let b = c.args.book.now in
    let no : c.settle_all.result ≡ Ok false = search rules in
    let lists = c.in_ok-walk_into.ensures.added.lists
    ∙ (c.clear.ensures.lists ∙ c.lists_deferred.ensures) in
    inr (record {
      book = c.settle_all.ensures.same (not_both c.settle_all.result no);
      none = ⊎_elim (λ p. let both : false ≡ true = sym p.1 ∙ (lists ∙ p.0) in absurd cc)
          (λ never. not_open b.open_items c.from_ref.result.now c.args.item.now
          c.from_ref.ensures.value never) (c.settle_all.ensures.not_taken no);
    })
