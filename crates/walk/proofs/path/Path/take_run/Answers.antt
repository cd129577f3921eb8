use Rattle.std.proofs.Common.{◌≡◌, ◌<◌, ◌≤◌, ◌+◌, ◌++◌, ◌∷◌, ◌∙◌, [], ℕ, List, true, false, length}
use Rattle.std.proofs.Common.{take, map, refl, ap, sym, subst, arith, rules}
use Rattle.guest_code.specs.Program.{Program}
use Rattle.semantics.specs.{Machine.is_enabled, Mask.members_from}
use Rattle.semantics.proofs.WorkFalls.{enabled_below}
use Rattle.std.proofs.Common.{Bool, ◌&&◌, ◌||◌, not}
use Rattle.std.proofs.lemmas.Bool.{false≢true}
use Rattle.walk_items.specs.{Children.{is_hidden_after, mask_after, cost_of}, Items.ItemView}
use Rattle.walk_items.specs.declared.mode.Mode.{Mode, TheVariants.{Bounded, Reduced, BoundedOnce, ReducedOnce}}
use Rattle.semantics.specs.Mask.{has}
use Rattle.walk.specs.{declared.path.{Node.Node, Path.Path}, inner.Paths.{state_at, IsPath}}
use Rattle.walk.specs.inner.WalkerInvariant.{left_above, here, item_of, runs_on, IsExtended, IsAlong}
use Rattle.walk.specs.inner.WalkerInvariant.{IsShared, HasPut}
use Rattle.walk.proofs.{Expansions.search_enabled, LoneSteps.{or_left, left_so}, WalkTurns.and_true}
use Rattle.walk.proofs.RunWalks.{along_begun, along_next, along_falls, same_path, run_further}
use Rattle.walk.proofs.RunWalks.{more_at, node_at, on_at, among_at, of_at, alone_at}
use Rattle.walk.proofs.RunWalks.{noted_all, run_searched, run_falls}
use Rattle.walk.proofs.path.Path.take_run.Goals.{After-runs_on}
use Rattle.walk.proofs.path.Path.take_run.Goals as goal

pub sleepers-asleep-requires-clause-enabled : goal.sleepers-asleep-requires-clause-enabled
sleepers-asleep-requires-clause-enabled c =
    let t = c.args.self.now in
    subst (λ (q : Program). is_enabled q (state_at q t.steps.items) c.args.thread ≡ true)
    (sym c.program-program.ensures)
    (search_enabled c.args.mode c.args.item.now t c.args.found.now c.args.thread
    (left_above c.args.mode c.args.item.now.program t) c.requires.search.1)

pub extend-requires-clause-enabled : goal.extend-requires-clause-enabled
extend-requires-clause-enabled c =
    let t = c.args.self.now in
    subst (λ (q : Program). is_enabled q (state_at q t.steps.items) c.args.thread ≡ true)
    (sym c.program-program.ensures)
    (search_enabled c.args.mode c.args.item.now t c.args.found.now c.args.thread
    (left_above c.args.mode c.args.item.now.program t) c.requires.search.1)

pub with-others-requires : goal.with-others-requires
with-others-requires c =
    let p = c.args.item.now.program in
    let t = c.args.self.now in
    let below = enabled_below p (state_at p t.steps.items) c.args.thread
    (search_enabled c.args.mode c.args.item.now t c.args.found.now c.args.thread
    (left_above c.args.mode p t) c.requires.search.1) in
    let few = c.requires.search.1.place.path.shows.state.of.few in
    omega (arith, below, few)

pub loop-place-init : goal.loop-place-init
loop-place-init c =
    record {
      same = refl;
      steps = refl;
      within = let further = run_further c.program-program.result.now c.args.mode c.args.self.now
          c.extend.new.self c.args.thread c.sleepers-asleep.result c.in_ok-run.run'
          c.in_ok-run.ensures.extended in
          let some = c.in_ok-run.ensures.extended.some in
          omega (arith, c.len-from.ensures, c.args.self.now.steps.ok.0, further, some);
      along = λ b h. h;
      falls = omega arith;
      tried = refl;
    }

-- where a run goes on step by step, nobody is hidden
all_seen : (m : Mode) (c : ItemView) (n : Node) (b : Bool) (v : ℕ) → runs_on m n ≡ true
    → b ≡ (b && not (is_hidden_after m c v))
all_seen (Bounded bound) c n b v h = sym (and_true b)
all_seen Reduced c n b v h = absurd (false≢true h)
all_seen (BoundedOnce bound) c n b v h = absurd (false≢true h)
all_seen ReducedOnce c n b v h = absurd (false≢true h)

runs : (noted on : Bool) → (noted || not on) ≡ false → on ≡ true
runs true on h = absurd (false≢true (sym h))
runs false true h = refl
runs false false h = absurd (false≢true (sym h))

is_noted : (noted on : Bool) → (noted || not on) ≡ true → (noted ≡ false → on ≡ true)
    → noted ≡ true
is_noted true on h f = refl
is_noted false on h f = left_so false on h (f refl)

-- what is known after the run

path_is : (c : After-runs_on) → IsPath c.args.item.now.program c.extend.new.self
path_is c = subst (λ (q : Program). IsPath q c.extend.new.self) c.program-program.ensures
    c.extend.ensures.path

extended_is : (c : After-runs_on) → IsExtended c.args.item.now.program c.args.mode
    c.args.self.now c.extend.new.self c.args.thread c.sleepers-asleep.result
    c.has_noted_all-heedless.result c.in_ok-run.run'
extended_is c = subst (λ (q : Program). IsExtended q c.args.mode c.args.self.now c.extend.new.self
    c.args.thread c.sleepers-asleep.result c.has_noted_all-heedless.result c.in_ok-run.run')
    c.program-program.ensures c.in_ok-run.ensures.extended

mask_is : (c : After-runs_on) → c.sleepers-asleep.result
    ≡ mask_after c.args.mode (here c.args.item.now.program c.args.self.now) c.args.thread
mask_is c = c.sleepers-asleep.ensures ∙ ap (λ (q : Program). mask_after c.args.mode
    (here q c.args.self.now) c.args.thread) c.program-program.ensures

first_is : (c : After-runs_on) → length c.args.self.now.steps.items ≡ c.len-from.result
first_is c = omega (arith, c.len-from.ensures, c.args.self.now.steps.ok.0)

-- where the loop goes on

pub defer-requires-clause-shared : goal.defer-requires-clause-shared
defer-requires-clause-shared c =
    let d = (goal.at.defer-requires-clause-shared c).After-runs_on in
    let begun = along_begun c.args.mode c.args.item.now c.args.self.now c.extend.new.self
    c.args.found.now c.args.thread c.sleepers-asleep.result c.in_ok-run.run' c.requires.search.1
    (extended_is d) (mask_is d) in
    subst (λ (w : List ℕ). IsShared (take c.loop-place.place w) c.loop-place.found)
    (sym c.loop-place.invariant.steps)
    (c.loop-place.invariant.along c.requires.search.0
    (subst (λ n. IsAlong c.requires.search.0 c.args.mode c.args.item.now c.extend.new.self
    c.args.found.now (n + 1)) (first_is d) begun)).shared

pub returns-in_err-defer-clause-path : goal.returns-in_err-defer-clause-path
returns-in_err-defer-clause-path c =
    let d = (goal.at.returns-in_err-defer-clause-path c).After-runs_on in
    same_path c.args.item.now.program c.extend.new.self c.loop-place.self c.defer.new.steps
    c.loop-place.invariant.same (c.defer.ensures.steps ∙ c.loop-place.invariant.steps)
    (path_is d)

pub loop-place-preserved : goal.loop-place-preserved
loop-place-preserved c =
    let d = (goal.at.loop-place-preserved c).After-runs_on in
    let i = c.args.item.now in
    let old = c.args.self.now in
    let new = c.extend.new.self in
    let m = c.args.mode in
    let u = c.args.thread in
    let run = c.in_ok-run.run' in
    let place = c.loop-place.place in
    let f = c.loop-place.found in
    let g = c.defer.new.self in
    let past = c.with-others.result in
    let path = path_is d in
    let extended = extended_is d in
    let from : length old.steps.items + 1 ≤ place =
    omega (arith, c.len-from.ensures, old.steps.ok.0, c.loop-place.auto.place) in
    let inside : place < length new.steps.items =
    omega (arith, c.len-place-end.ensures, new.steps.ok.0, c.loop-place-test.true) in
    let more = more_at i.program m old new u c.sleepers-asleep.result run place path extended from
    inside in
    let among = among_at i.program m old new u c.sleepers-asleep.result run place path extended from
    inside (or_left _ _ c.if-settled.false) in
    let less = along_falls i.program new u place more
    (on_at i.program m old new u c.sleepers-asleep.result run place path extended from inside) in
    let falls = c.loop-place.invariant.falls in
    record {
      same = ap (λ (x : Path). record x { steps = c.defer.new.steps })
          c.loop-place.invariant.same;
      steps = c.defer.ensures.steps ∙ c.loop-place.invariant.steps;
      within = omega (arith, inside);
      along = λ b h. along_next m i (here i.program old) new f g run.among past past u place
          (c.loop-place.invariant.along b h) more
          (node_at i.program m old new u c.sleepers-asleep.result run place path extended from inside
          run.among among)
          (of_at i.program m old new u c.sleepers-asleep.result run place path extended from inside)
          extended.last (extended.asleep ∙ mask_is d)
          (alone_at i.program m old new u c.sleepers-asleep.result run place path extended from
          inside run.among among) c.with-others.ensures.same
          c.with-others.ensures.others
          (λ v. all_seen m (item_of i.program (take place new.steps.items) new.node) new.node
          (has past v) v (sym c.runs_on.ensures ∙ runs _ _ c.if-settled.false))
          c.in_ok-defer.ensures.part c.defer.ensures.rest
          (subst (λ (w : List ℕ). HasPut f (map (λ v. take place w ++ v ∷ [])
          (members_from past 0)) g)
          c.loop-place.invariant.steps c.in_ok-defer.ensures.put)
          (subst (λ (w : List ℕ). IsShared (take place w) g) c.loop-place.invariant.steps
          c.in_ok-defer.ensures.shared);
      falls = omega (arith, less, falls);
      tried = search rules;
    }

pub returns-clause-path : goal.returns-clause-path
returns-clause-path c =
    let d = (goal.at.returns-clause-path c).After-runs_on in
    same_path c.args.item.now.program c.extend.new.self c.loop-place.self c.loop-place.self.steps
    c.loop-place.invariant.same c.loop-place.invariant.steps
    (path_is d)

pub returns-clause-last : goal.returns-clause-last
returns-clause-last c = ap (λ (x : Path). x.node.last) c.loop-place.invariant.same
    ∙ c.in_ok-run.ensures.extended.last

pub returns-clause-further : goal.returns-clause-further
returns-clause-further c =
    let further = run_further c.program-program.result.now c.args.mode c.args.self.now
    c.extend.new.self c.args.thread c.sleepers-asleep.result c.in_ok-run.run'
    c.in_ok-run.ensures.extended in
    let some = c.in_ok-run.ensures.extended.some in
    let same = ap (λ (w : List ℕ). length w) c.loop-place.invariant.steps in
    omega (arith, further, some, same)

-- where nothing is to be put off from within the run

further_is : (c : After-runs_on) → length c.extend.new.self.steps.items
    ≡ length c.args.self.now.steps.items + c.in_ok-run.run'.steps
further_is c = run_further c.args.item.now.program c.args.mode c.args.self.now c.extend.new.self
    c.args.thread c.sleepers-asleep.result c.in_ok-run.run' (extended_is c)

pub returns-then-settled-clause-search : goal.returns-then-settled-clause-search
returns-then-settled-clause-search c = λ b h.
    let d = (goal.at.returns-then-settled-clause-search c).After-runs_on in
    let i = c.args.item.now in
    let m = c.args.mode in
    let old = c.args.self.now in
    let new = c.extend.new.self in
    let u = c.args.thread in
    let run = c.in_ok-run.run' in
    let f = c.args.found.now in
    let further = further_is d in
    let some = c.in_ok-run.ensures.extended.some in
    run_searched m i old new u c.sleepers-asleep.result run (path_is d) (extended_is d) (mask_is d)
    new refl refl (length old.steps.items + 1) (omega arith) (omega (arith, further, some)) f f h
    (λ along. along) (λ k from inside. noted_all m new.node i.program (take k new.steps.items) u f
    (of_at i.program m old new u c.sleepers-asleep.result run k (path_is d) (extended_is d) from
    inside)
    (sym c.has_noted_all-heedless.ensures
    ∙ is_noted _ _ c.if-settled.true (λ off. c.runs_on.ensures
    ∙ (extended_is d).alike off (omega (arith, from, inside, further)))))

pub returns-then-settled-clause-falls : goal.returns-then-settled-clause-falls
returns-then-settled-clause-falls c =
    let d = (goal.at.returns-then-settled-clause-falls c).After-runs_on in
    let old = c.args.self.now in
    let new = c.extend.new.self in
    let further = further_is d in
    let some = c.in_ok-run.ensures.extended.some in
    run_falls c.args.mode c.args.item.now old new c.args.thread c.sleepers-asleep.result
    c.in_ok-run.run' (path_is d) (extended_is d) (mask_is d) new refl refl
    (length old.steps.items + 1) (omega arith) (omega (arith, further, some))
    c.requires.search.1.place.base (omega arith)

pub returns-then-settled-clause-last : goal.returns-then-settled-clause-last
returns-then-settled-clause-last c = c.in_ok-run.ensures.extended.last

pub returns-then-settled-clause-further : goal.returns-then-settled-clause-further
returns-then-settled-clause-further c =
    let d = (goal.at.returns-then-settled-clause-further c).After-runs_on in
    let further = further_is d in
    let some = c.in_ok-run.ensures.extended.some in
    omega (arith, further, some)

-- at the end of the loop

pub returns-clause-search : goal.returns-clause-search
returns-clause-search c = λ b h.
    let d = (goal.at.returns-clause-search c).After-runs_on in
    let i = c.args.item.now in
    let old = c.args.self.now in
    let new = c.extend.new.self in
    let first = first_is d in
    run_searched c.args.mode i old new c.args.thread c.sleepers-asleep.result c.in_ok-run.run'
    (path_is d) (extended_is d) (mask_is d) c.loop-place.self c.loop-place.invariant.same
    c.loop-place.invariant.steps c.loop-place.place (omega (arith, first, c.loop-place.auto))
    c.loop-place.invariant.within c.args.found.now c.loop-place.found h
    (λ along. c.loop-place.invariant.along b
    (subst (λ n. IsAlong b c.args.mode i new c.args.found.now (n + 1)) first along))
    (λ k later inside. absurd (omega (
      arith,
      later,
      inside,
      c.len-place-end.ensures,
      new.steps.ok.0,
      c.loop-place-test.false,
    )))

pub returns-clause-falls : goal.returns-clause-falls
returns-clause-falls c =
    let d = (goal.at.returns-clause-falls c).After-runs_on in
    let new = c.extend.new.self in
    let first = first_is d in
    run_falls c.args.mode c.args.item.now c.args.self.now new c.args.thread
    c.sleepers-asleep.result c.in_ok-run.run' (path_is d) (extended_is d) (mask_is d)
    c.loop-place.self c.loop-place.invariant.same c.loop-place.invariant.steps c.loop-place.place
    (omega (arith, first, c.loop-place.auto)) c.loop-place.invariant.within
    c.requires.search.1.place.base
    (subst (λ n. cost_of (item_of c.args.item.now.program (take c.loop-place.place new.steps.items)
    new.node)
    ≤ cost_of (item_of c.args.item.now.program (take (n + 1) new.steps.items) new.node))
    (sym (first_is d)) c.loop-place.invariant.falls)

pub returns-clause-tried : goal.returns-clause-tried
returns-clause-tried c = c.loop-place.invariant.tried
