use Rattle.std.proofs.Common.{◌≡◌, ◌<◌, ◌≤◌, [], ap, ◌∙◌, sym, subst}
use Rattle.walk_items.specs.{Items.ItemView, Walks.{WalkView, IsWalked}}
use Rattle.walk.{specs.Founds.found_walk, proofs.Walks.alone_added}
use Rattle.walk.proofs.walker.walk.Goals as goal

pub new-requires : goal.new-requires
new-requires c =
    subst (λ (i : ItemView). IsWalked (found_walk c.args.mode i c.walk.new.found))
    (sym c.in_ok-try_clone.ensures.same)
    (alone_added c.args.mode c.args.item.now c.args.quota c.new-found.result c.walk.new.found
    c.new-found.ensures.part c.new-found.ensures.rest c.new-found.ensures.deferred
    c.new-found.ensures.lists c.in_ok-walk.ensures.added).walked

pub returns-clause-tried : goal.returns-clause-tried
returns-clause-tried c =
    subst (λ (w : WalkView). w.part.tried ≤ c.args.quota) (sym c.new.ensures)
    (alone_added c.args.mode c.args.item.now c.args.quota c.new-found.result c.walk.new.found
    c.new-found.ensures.part c.new-found.ensures.rest c.new-found.ensures.deferred
    c.new-found.ensures.lists c.in_ok-walk.ensures.added).tried

pub returns-clause-rest : goal.returns-clause-rest
returns-clause-rest c =
    subst (λ (w : WalkView). w.part.tried < c.args.quota → w.rest ≡ []) (sym c.new.ensures)
    (alone_added c.args.mode c.args.item.now c.args.quota c.new-found.result c.walk.new.found
    c.new-found.ensures.part c.new-found.ensures.rest c.new-found.ensures.deferred
    c.new-found.ensures.lists c.in_ok-walk.ensures.added).rest

pub returns-clause-past : goal.returns-clause-past
returns-clause-past c = λ more.
    c.new.ensures
    ∙ (ap (λ (i : ItemView). found_walk c.args.mode i c.walk.new.found)
    c.in_ok-try_clone.ensures.same
    ∙ (alone_added c.args.mode c.args.item.now c.args.quota c.new-found.result c.walk.new.found
    c.new-found.ensures.part c.new-found.ensures.rest c.new-found.ensures.deferred
    c.new-found.ensures.lists c.in_ok-walk.ensures.added).past more)

pub returns-clause-walked : goal.returns-clause-walked
returns-clause-walked c =
    subst IsWalked (sym c.new.ensures)
    (subst (λ (i : ItemView). IsWalked (found_walk c.args.mode i c.walk.new.found))
    (sym c.in_ok-try_clone.ensures.same)
    (alone_added c.args.mode c.args.item.now c.args.quota c.new-found.result c.walk.new.found
    c.new-found.ensures.part c.new-found.ensures.rest c.new-found.ensures.deferred
    c.new-found.ensures.lists c.in_ok-walk.ensures.added).walked)
