use Rattle.std.proofs.Common.{◌≡◌, ◌++◌, ◌∷◌, [], ℕ, List, map, take, sym, subst, ◌∙◌, ◌&&◌, not, ap}
use Rattle.std.proofs.Common.{refl, arith}
use Rattle.std.proofs.lemmas.List.{take_at}
use Rattle.semantics.{specs.Mask.{HasEnabled, has, members_from}, proofs.WorkFalls.enabled_below}
use Rattle.guest_code.specs.Program.{Program}
use Rattle.walk_items.specs.Children.{is_hidden_after}
use Rattle.walk.specs.inner.Paths.{state_at}
use Rattle.walk.specs.inner.WalkerInvariant.{at_bound, here, item_of, left_above, HasPut, IsShared}
use Rattle.walk.proofs.Expansions.{within_at, turned_here, below_turns}
use Rattle.walk.proofs.LoneSteps.{lone_search, and_right, free_alone}
use Rattle.walk.proofs.{PathSteps.path_same, SharedSteps.popped, WalkSteps.first_on}
use Rattle.walk.proofs.path.Path.defer_others_if_alone.Goals as goal

pub with-others-requires : goal.with-others-requires
with-others-requires c =
    let p = c.args.item.now.program in
    let t = c.args.self.now in
    let path = c.requires.search.1.place.path in
    let below = enabled_below p (state_at p t.steps.items) c.args.thread
    (sym (c.enabled-enabled.ensures p (state_at p t.steps.items) path.shows c.args.thread)
    ∙ (and_right (at_bound c.args.mode t.node) (has c.enabled-enabled.result c.args.thread)
    (sym c.is_alone.ensures ∙ c.if-not-is_alone.false))) in
    let few = path.shows.state.of.few in
    omega (arith, below, few)

pub seen-past-requires-clause-enabled : goal.seen-past-requires-clause-enabled
seen-past-requires-clause-enabled c =
    let p = c.args.item.now.program in
    let t = c.args.self.now in
    subst (λ (q : Program). HasEnabled c.enabled-enabled.result q (state_at q t.steps.items))
    (sym c.program.ensures)
    (c.enabled-enabled.ensures p (state_at p t.steps.items) c.requires.search.1.place.path.shows)

pub returns-in_err-deferred-clause-path : goal.returns-in_err-deferred-clause-path
returns-in_err-deferred-clause-path c =
    let t = c.args.self.now in
    let path = c.requires.search.1.place.path in
    path_same c.args.item.now.program t _ path
    (popped c.defer-deferred.new.steps c.pop.new.self t.steps.items c.args.thread
    (c.defer-deferred.ensures.steps ∙ c.in_ok-push.ensures.items) c.pop.ensures.rest)
    refl refl refl refl refl refl path.room

pub returns-clause-path : goal.returns-clause-path
returns-clause-path c =
    let t = c.args.self.now in
    let path = c.requires.search.1.place.path in
    path_same c.args.item.now.program t _ path
    (popped c.defer-deferred.new.steps c.pop.new.self t.steps.items c.args.thread
    (c.defer-deferred.ensures.steps ∙ c.in_ok-push.ensures.items) c.pop.ensures.rest)
    refl refl refl refl refl refl path.room

pub returns-clause-search : goal.returns-clause-search
returns-clause-search c =
    let p = c.args.item.now.program in
    let t = c.args.self.now in
    let f = c.args.found.now in
    let g = c.defer-deferred.new.self in
    let past = c.seen-past.result in
    let place = c.len-place.result in
    let here : take place c.push.new.self.items ≡ t.steps.items =
    ap (take place) c.in_ok-push.ensures.items
    ∙ take_at t.steps.items (c.args.thread ∷ []) place (omega
    (arith, c.len-place.ensures, t.steps.ok.0))
    in
    λ b h. lone_search c.args.mode c.args.item.now t c.pop.new.self f g
    c.enabled-enabled.result c.with-others.result past c.args.thread h
    (c.enabled-enabled.ensures p (state_at p t.steps.items) c.requires.search.1.place.path.shows)
    (popped c.defer-deferred.new.steps c.pop.new.self t.steps.items c.args.thread
    (c.defer-deferred.ensures.steps ∙ c.in_ok-push.ensures.items) c.pop.ensures.rest)
    c.requires.last (sym c.is_alone.ensures ∙ c.if-not-is_alone.false)
    c.with-others.ensures.same c.with-others.ensures.others
    (λ u. subst (λ (q : Program). has past u ≡ (has c.with-others.result u
    && not (is_hidden_after c.args.mode (item_of q t.steps.items t.node) u))) c.program.ensures (c.seen-past.ensures u))
    c.in_ok-deferred.ensures.part
    c.defer-deferred.ensures.rest
    (subst (λ (w : List ℕ). HasPut f (map (λ u. w ++ u ∷ []) (members_from past 0)) g) here
    c.in_ok-deferred.ensures.put)
    (subst (λ (w : List ℕ). IsShared w g) here c.in_ok-deferred.ensures.shared)

pub returns-clause-falls : goal.returns-clause-falls
returns-clause-falls c =
    let p = c.args.item.now.program in
    let t = c.args.self.now in
    below_turns c.args.mode p t _ c.args.thread
    (turned_here t _ (popped c.defer-deferred.new.steps c.pop.new.self t.steps.items c.args.thread
    (c.defer-deferred.ensures.steps ∙ c.in_ok-push.ensures.items) c.pop.ensures.rest)
    refl refl refl refl refl refl)
    (sym (c.enabled-enabled.ensures p (state_at p t.steps.items)
    c.requires.search.1.place.path.shows c.args.thread)
    ∙ and_right (at_bound c.args.mode t.node) (has c.enabled-enabled.result c.args.thread)
    (sym c.is_alone.ensures ∙ c.if-not-is_alone.false))

pub defer-deferred-requires-clause-shared : goal.defer-deferred-requires-clause-shared
defer-deferred-requires-clause-shared c =
    let t = c.args.self.now in
    let place = c.len-place.result in
    let here : take place c.push.new.self.items ≡ t.steps.items =
    ap (take place) c.in_ok-push.ensures.items
    ∙ take_at t.steps.items (c.args.thread ∷ []) place (omega
    (arith, c.len-place.ensures, t.steps.ok.0))
    in
    subst (λ (w : List ℕ). IsShared w c.args.found.now) (sym here) c.requires.search.1.shared

pub returns-then-not-is_alone-clause-free : goal.returns-then-not-is_alone-clause-free
returns-then-not-is_alone-clause-free c =
    let p = c.args.item.now.program in
    let t = c.args.self.now in
    let path = c.requires.search.1.place.path in
    λ off. free_alone c.args.mode p t c.args.thread
    (within_at c.args.mode p t path (first_on c.args.mode c.args.item.now (here p t)
    c.args.found.now (left_above c.args.mode p t) c.requires.search.1.walked).within)
    c.requires.last
    (ap (λ b. at_bound c.args.mode t.node && b)
    (sym (c.enabled-enabled.ensures p (state_at p t.steps.items) path.shows c.args.thread))
    ∙ (sym c.is_alone.ensures ∙ c.if-not-is_alone.true))
