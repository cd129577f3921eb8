use Rattle.std.proofs.Common.{◌≡◌, ◌∙◌, [], ◌∷◌, ◌++◌, ap, sym, subst, map}
use Rattle.std.proofs.lemmas.List.{map-append, replicate_more}
use Rattle.walk_items.specs.Walks.{items_at}
use Rattle.book.specs.{Books.{BookView, Keeps}, ItemLists.all_of}
use Rattle.book.proofs.LendingFields.{not_lent_yet}
use Rattle.book.proofs.lending.LendingBook.new.Goals as goal

pub loop-preserved : goal.loop-preserved
loop-preserved c = λ p.
    let none : all_of p c.new.result ≡ [] =
    λ k. items_at p (c.new.ensures.packed k) ++ c.new.ensures.unpacked k in
    ap (map (all_of p)) c.in_ok-push.ensures.items
    ∙ (map-append (all_of p) c.loop.lent.items (c.new.result ∷ [])
    ∙ ((λ k. c.loop.invariant p k ++ none k ∷ []) ∙ replicate_more c.loop.counter []))

pub invariant_of-result : goal.invariant_of-result
invariant_of-result c =
    let i = c.book.inside in
    subst Keeps (sym (not_lent_yet i c.loop.lent.items c.loop.counter
    (ap (λ (b : BookView). b.dropped) c.book.view_is ∙ c.requires.all)
    (c.loop.invariant i.of.program))) c.book.invariant.0

pub returns-clause-book : goal.returns-clause-book
returns-clause-book c =
    let i = c.book.inside in
    not_lent_yet i c.loop.lent.items c.loop.counter
    (ap (λ (b : BookView). b.dropped) c.book.view_is ∙ c.requires.all)
    (c.loop.invariant i.of.program) ∙ c.book.view_is
