use Rattle.std.proofs.Common.{◌≡◌, ◌∙◌, ◌+◌, ◌≤◌, ◌&&◌, not, ℕ, [], ap, refl, sym, subst}
use Rattle.std.{specs.List.filter, proofs.lemmas.Bool.false≢true}
use Rattle.guest_code.specs.Program.{Program}
use Rattle.semantics.specs.{Ends.is_empty, Mask.{HasEnabled, has, members_from}}
use Rattle.walk_items.specs.Children.{is_hidden_after}
use Rattle.walk.specs.inner.{Paths.state_at, WalkerInvariant.{here, is_tried_at}}
use Rattle.walk.proofs.Expansions.{tried_at, turned_here, expanded_node, expanded_leaf, falls_node, falls_leaf, tried_added, place_turned}
use Rattle.walk.proofs.WalkTurns.{members_chosen}
use Rattle.walk.proofs.path.Path.expand.Goals.{After-seen-self}
use Rattle.walk.proofs.path.Path.expand.Goals as goal

-- who is to be tried
kept : (c : After-seen-self) → (t : ℕ) → has c.seen-self.result t ≡ (has c.enabled-enabled.result t
    && is_tried_at c.args.mode (here c.args.item.now.program c.args.self.now)
    c.enabled-enabled.result c.args.self.now.node t)
kept c = tried_at c.args.mode (here c.args.item.now.program c.args.self.now)
    c.enabled-enabled.result c.awake-awake.result c.seen-self.result c.args.self.now.node
    c.awake-awake.ensures
    (λ t. subst (λ (q : Program). has c.seen-self.result t ≡ (has c.awake-awake.result t
    && not (is_hidden_after c.args.mode (here q c.args.self.now) t))) c.program.ensures
    (c.seen-self.ensures t))

pub awake-awake-requires : goal.awake-awake-requires
awake-awake-requires c =
    let p = c.args.item.now.program in
    let t = c.args.self.now in
    c.requires.free c.enabled-enabled.result
    (c.enabled-enabled.ensures p (state_at p t.steps.items) c.requires.search.1.place.path.shows)

pub seen-self-requires-clause-enabled : goal.seen-self-requires-clause-enabled
seen-self-requires-clause-enabled c =
    let p = c.args.item.now.program in
    let t = c.args.self.now in
    subst (λ (q : Program). HasEnabled c.enabled-enabled.result q (state_at q t.steps.items))
    (sym c.program.ensures)
    (c.enabled-enabled.ensures p (state_at p t.steps.items) c.requires.search.1.place.path.shows)

pub returns-in-Some-clause-search : goal.returns-in-Some-clause-search
returns-in-Some-clause-search c =
    let p = c.args.item.now.program in
    let t = c.args.self.now in
    let on = c.enabled-enabled.ensures p (state_at p t.steps.items)
    c.requires.search.1.place.path.shows in
    λ b h. expanded_node c.args.mode c.args.item.now t _ c.args.found.now
    c.enabled-enabled.result _ _ h on (turned_here t _ refl refl refl refl refl
    refl refl)
    (kept (goal.at.returns-in-Some-clause-search c).After-seen-self) (c.requires.free c.enabled-enabled.result on) c.in-Some.ensures.list
    c.requires.search.1.place.path.room

pub returns-in-Some-clause-falls : goal.returns-in-Some-clause-falls
returns-in-Some-clause-falls c =
    let p = c.args.item.now.program in
    let t = c.args.self.now in
    falls_node c.args.mode p t (record t { node = (record t.node { todo = c.seen-self.result }) })
    c.enabled-enabled.result _ _ c.requires.search.1.place
    (c.enabled-enabled.ensures p (state_at p t.steps.items) c.requires.search.1.place.path.shows)
    (turned_here t _ refl refl refl refl refl refl refl)
    (kept (goal.at.returns-in-Some-clause-falls c).After-seen-self) c.in-Some.ensures.list

pub returns-in_ok-add-in-None-clause-search : goal.returns-in_ok-add-in-None-clause-search
returns-in_ok-add-in-None-clause-search c =
    let p = c.args.item.now.program in
    let t = c.args.self.now in
    let shows = c.requires.search.1.place.path.shows in
    λ b h. expanded_leaf c.args.mode c.args.item.now t _ c.args.found.now _
    c.enabled-enabled.result _ _ h (c.enabled-enabled.ensures p (state_at p t.steps.items) shows)
    (turned_here t _ refl refl refl refl refl refl refl)
    (kept (goal.at.returns-in_ok-add-in-None-clause-search c).After-seen-self) c.in-None.ensures.list c.as_slice.ensures.value
    (λ i. record {
      kind = c.kind-kind.ensures p (state_at p t.steps.items) shows i;
      vars = c.variables.ensures p (state_at p t.steps.items) shows i;
    })
    refl c.in_ok-add-in-None.ensures c.requires.search.1.place.path.room

pub returns-in_ok-add-in-None-clause-falls : goal.returns-in_ok-add-in-None-clause-falls
returns-in_ok-add-in-None-clause-falls c =
    falls_leaf c.args.mode c.args.item.now.program c.args.self.now
    (record c.args.self.now { node = (record c.args.self.now.node { todo = c.seen-self.result }); ends = c.add.new.memory })
    c.enabled-enabled.result
    c.requires.search.1.place (c.enabled-enabled.ensures c.args.item.now.program
    (state_at c.args.item.now.program c.args.self.now.steps.items)
    c.requires.search.1.place.path.shows)
    (turned_here c.args.self.now _ refl refl refl refl refl refl refl)
    (kept (goal.at.returns-in_ok-add-in-None-clause-falls c).After-seen-self) c.in-None.ensures.list

pub returns-in_ok-add-in-None-clause-tried : goal.returns-in_ok-add-in-None-clause-tried
returns-in_ok-add-in-None-clause-tried c =
    let least = tried_added c.args.found.now.part c.as_slice.result.now
    (record { kind = c.kind-kind.result; vars = c.variables.result.now }) in
    subst (λ (s : _). s.tried ≤ c.args.found.now.part.tried + 1) (sym c.in_ok-add-in-None.ensures)
    least

pub returns-in_ok-add-in-None-clause-more : goal.returns-in_ok-add-in-None-clause-more
returns-in_ok-add-in-None-clause-more c =
    let t = c.args.self.now in
    let over : members_from c.seen-self.result 0 ≡ [] =
    members_chosen c.seen-self.result c.enabled-enabled.result
    (is_tried_at c.args.mode (here c.args.item.now.program t) c.enabled-enabled.result t.node)
    (kept (goal.at.returns-in_ok-add-in-None-clause-more c).After-seen-self) ∙ ap (filter (is_tried_at c.args.mode (here c.args.item.now.program t) c.enabled-enabled.result t.node))
    c.in-None.ensures.list in
    λ more. absurd (false≢true (sym more ∙ ap is_empty over))

pub returns-in_err-add-in-None-clause-place : goal.returns-in_err-add-in-None-clause-place
returns-in_err-add-in-None-clause-place c =
    let t = c.args.self.now in
    let place = c.requires.search.1.place in
    place_turned c.args.item.now.program t _ place
    (turned_here t _ refl refl refl refl refl refl refl) place.path.room

pub returns-in_ok-add-in-None-clause-place : goal.returns-in_ok-add-in-None-clause-place
returns-in_ok-add-in-None-clause-place c =
    let t = c.args.self.now in
    let place = c.requires.search.1.place in
    place_turned c.args.item.now.program t _ place
    (turned_here t _ refl refl refl refl refl refl refl) place.path.room
