use Rattle.std.proofs.Common.{refl, arith, subst}
use Rattle.std.proofs.lemmas.Result.{on_ok_weaker}
use Rattle.walk.specs.inner.WalkerInvariant.{Begins}
use Rattle.walk.proofs.Walks.{past_added, begun_is, search_added, items_run}
use Rattle.walk.proofs.path.Path.walk.Goals as goal

pub returns-then-not-branch-clause-added : goal.returns-then-not-branch-clause-added
returns-then-not-branch-clause-added c =
    let i = c.args.item.now in
    let f = c.args.found.now in
    let g = c.begin.new.found in
    past_added c.args.mode i f g _ c.args.quota
    (subst (Begins c.args.mode i f c.begin.new.self g) c.if-not-branch.true
    c.in_ok-begin.ensures.begun) c.ends-ends.ensures.kept
    (λ k. record g { part = c.set_beyond.ensures k })

pub search-requires : goal.search-requires
search-requires c =
    let f = c.args.found.now in
    let begun = begun_is c.args.mode c.args.item.now f c.begin.new.found c.begin.new.self _
    c.if-not-branch.false c.in_ok-begin.ensures.begun in
    (record {
      search = (f, begun.search);
      few = let l = begun.tried in
          omega (arith, l, c.tried.ensures, c.from.ensures, c.requires.quota);
    })

pub drain-requires-clause-place : goal.drain-requires-clause-place
drain-requires-clause-place c =
    let f = c.args.found.now in
    (c.in_ok-search.ensures.searched.search f
    (begun_is c.args.mode c.args.item.now f c.begin.new.found c.begin.new.self _
    c.if-not-branch.false c.in_ok-begin.ensures.begun).search).place

pub drain-requires-clause-items : goal.drain-requires-clause-items
drain-requires-clause-items c =
    let f = c.args.found.now in
    items_run c.args.mode c.args.item.now c.search.new.found _
    (c.in_ok-search.ensures.searched.search f
    (begun_is c.args.mode c.args.item.now f c.begin.new.found c.begin.new.self _
    c.if-not-branch.false c.in_ok-begin.ensures.begun).search).walked

pub returns-clause-added : goal.returns-clause-added
returns-clause-added c =
    let i = c.args.item.now in
    let f = c.args.found.now in
    let begun = begun_is c.args.mode i f c.begin.new.found c.begin.new.self _
    c.if-not-branch.false c.in_ok-begin.ensures.begun in
    let searched = c.in_ok-search.ensures.searched in
    let few = searched.few in
    let tried = c.tried.ensures in
    let quota = c.from.ensures in
    on_ok_weaker c.drain.result
    (search_added c.args.mode i c.search.new.self f c.search.new.found _ c.args.quota begun.within
    (searched.search f begun.search) c.requires.room (omega (arith, few, tried, quota))
    (λ l. searched.all (omega (arith, l, tried, quota))) refl)
    c.drain.ensures.rest
