-- What arriving at a node does to a walk: the node gives way to its children, or is tried.
use Rattle.std.proofs.Common.{◌≡◌, ℕ, ◌+◌, ◌-◌, ◌<◌, ◌≤◌, Bool, true, false, ◌&&◌, ◌||◌, not, List}
use Rattle.std.proofs.Common.{[], ◌∷◌, ◌++◌, length, take, map, ap, refl, ◌∙◌, sym, arith, subst}
use Rattle.std.proofs.Common.{min}
use Rattle.std.{specs.List.filter, proofs.{Math.Bool.or-false, lemmas.Bool.false≢true}}
use Rattle.guest_code.specs.Program.{Program}
use Rattle.semantics.specs.Ends.{is_terminal, is_empty, view_at}
use Rattle.semantics.specs.Machine.{Snapshot, start, is_enabled}
use Rattle.semantics.specs.Mask.{has, members_from, no_threads, HasEnabled}
use Rattle.semantics.specs.{Reachable.IsOf, View.View, Work.work, declared.mask.Mask.Mask}
use Rattle.semantics.proofs.{Masks.{empty_has, members_over}, WorkFalls.work-step}
use Rattle.walk_items.specs.Children.{state_of, IsWithin, is_hidden_after, is_kept_step, kept_steps, past_steps}
use Rattle.walk_items.specs.Children.{passes_bound, child_of, children_of, children, cost_of, costs}
use Rattle.walk_items.specs.{Items.{ItemView, IsItem}, Walks.{IsWalked, items_at}}
use Rattle.walk_items.specs.declared.mode.Mode.{Mode, TheVariants.{Bounded, Reduced, BoundedOnce, ReducedOnce}}
use Rattle.walk_items.proofs.Turns.{costs-append, cost_two, children_cost, turns_more}
use Rattle.walk.specs.declared.{found.Found.Found, path.Node.Node, path.Path.Path}
use Rattle.walk.specs.inner.Paths.{used_frames, IsNode, IsPath, state_at}
use Rattle.walk.specs.inner.WalkerInvariant.{item_of, here, left_above, still_open, turns_left}
use Rattle.walk.specs.inner.WalkerInvariant.{turns_from, turns_into, is_past_at, is_kept_at}
use Rattle.walk.specs.inner.WalkerInvariant.{is_tried_at, is_put_off_at}
use Rattle.walk.specs.inner.WalkerInvariant.{IsWithinAt, open_from, IsPlace, HasPut, IsWalkedOn}
use Rattle.walk.specs.inner.WalkerInvariant.{IsSearch, IsPushedIfOpen, IsPushed, open_here}
use Rattle.walk.specs.inner.WalkerInvariant.{open_below, open_next}
use Rattle.walk.proofs.{PathSteps.path_same, Puts.{put_none, put_same, put_more}}
use Rattle.walk.proofs.SharedSteps.{shared_same, shared_kept, shared_back}
use Rattle.walk.proofs.WalkSteps.{walk_of, first_on, own_kept, join_beyond_on, leaf_on, walked_node}
use Rattle.walk.proofs.WalkSteps.{over_none, over_some}
use Rattle.walk.proofs.WalkTurns.{step_enabled, kept_members, past_members, node_enabled}
use Rattle.walk.proofs.WalkTurns.{deferred_are}
use Rattle.walk_summary.specs.Summaries.{SummaryView, with_beyond, greatest_count, added}
use Rattle.semantics_schedules.proofs.UnfoldingUnderPrefix.{state_after-push}

-- these are enabled at the path's node
abbrev pub AreOn : Program → Path → Mask → Type 0
AreOn p t e = HasEnabled e p (state_at p t.steps.items)

pub of_here : (p : Program) (t : Path) → IsPath p t → IsOf p (state_at p t.steps.items)
of_here p t h = h.shows.state.of

pub node_of : (p : Program) (t : Path) (e : Mask) → IsPath p t → AreOn p t e
    → IsNode p t.steps.items e t.node
node_of p t e h on = record { reaches = h.reaches; enabled = on }

-- the same place, where other threads may be still to be tried
pub record IsTurned (old new : Path) : Type 0 where
  pub steps : new.steps.items ≡ old.steps.items
  pub last : new.node.last ≡ old.node.last
  pub used : new.node.used ≡ old.node.used
  pub asleep : new.node.asleep ≡ old.node.asleep
  pub machine : new.machine ≡ old.machine
  pub size : new.size ≡ old.size
  pub frames : (used_frames new) ≡ (used_frames old)
  pub words : new.words.items ≡ old.words.items
  pub base : new.base ≡ old.base

pub turned_here : (old new : Path) → new.steps.items ≡ old.steps.items
    → new.node ≡ record old.node { todo = new.node.todo } → new.machine ≡ old.machine
    → new.size ≡ old.size
    → (used_frames new) ≡ (used_frames old) → new.words.items ≡ old.words.items
    → new.base ≡ old.base → IsTurned old new
turned_here old new steps node machine size frames words base = record {
  steps = steps;
  last = ap (λ (n : Node). n.last) node;
  used = ap (λ (n : Node). n.used) node;
  asleep = ap (λ (n : Node). n.asleep) node;
  machine = machine;
  size = size;
  frames = frames;
  words = words;
  base = base;
}

pub place_turned : (p : Program) (old new : Path) → IsPlace p old → IsTurned old new
    → new.depth ≤ length new.frames.items → IsPlace p new
place_turned p old new h o room = record {
  path = path_same p old new h.path o.steps o.last o.used o.machine o.size o.frames o.words room;
  some = let s = h.some in let e = o.base in omega (arith, s, e);
  base = let b = h.base in let e = o.base in let k = ap (λ fs. length fs) o.frames in
      omega (arith, b, e, k);
}

pub left_turned : (mode : Mode) (p : Program) (old new : Path) → IsTurned old new
    → left_above mode p new ≡ left_above mode p old
left_turned mode p old new o = λ i. open_from mode p (o.steps i) (o.frames i) (o.base i)
    (length (o.frames i) - o.base i)

pub here_turned : (p : Program) (old new : Path) → IsTurned old new → here p new ≡ here p old
here_turned p old new o = λ i. record { program = p; prefix = o.steps i; mask = o.asleep i }

pub both_of : (a b c : Bool) → ((a && b) && c) ≡ (a && (b && c))
both_of true b c = refl
both_of false b c = refl

-- the node's preemptions are within the bound
pub within_at : (mode : Mode) (p : Program) (t : Path) → IsPath p t → IsWithin mode (here p t)
    → IsWithinAt mode t.node
within_at (Bounded bound) p t h fits =
    subst (λ (k : ℕ). k ≤ bound) (sym h.reaches.preemptions) fits
within_at Reduced p t h fits = tt
within_at (BoundedOnce bound) p t h fits =
    subst (λ (k : ℕ). k ≤ bound) (sym h.reaches.preemptions) fits
within_at ReducedOnce p t h fits = tt

-- who is tried: who is awake and isn't hidden
pub tried_at : (mode : Mode) (c : ItemView) (e awake todo : Mask) (n : Node)
    → ((t : ℕ) → has awake t ≡ (has e t && is_kept_at mode e n t))
    → ((t : ℕ) → has todo t ≡ (has awake t && not (is_hidden_after mode c t)))
    → (t : ℕ) → has todo t ≡ (has e t && is_tried_at mode c e n t)
tried_at mode c e awake todo n kept seen t = seen t
    ∙ (ap (λ b. b && not (is_hidden_after mode c t)) (kept t)
    ∙ both_of (has e t) (is_kept_at mode e n t) (not (is_hidden_after mode c t)))

-- its children are open
open_opened : (mode : Mode) (p : Program) (old new : Path) (e : Mask) → IsPlace p old →
    AreOn p old e → IsTurned old new →
    ((t : ℕ) → has new.node.todo t ≡ (has e t && is_tried_at mode (here p old) e old.node t)) →
    still_open mode p new ≡ children mode (here p old) ++ left_above mode p old
open_opened mode p old new e h on o kept =
    let members : members_from new.node.todo 0 ≡ kept_steps mode (here p old) =
    kept_members mode p old.steps.items e old.node new.node.todo (node_of p old e h.path on)
    (of_here p old h.path) kept in
    λ i. children_of mode (here_turned p old new o i) (members i) ++ left_turned mode p old new o i

-- something is enabled, or nothing is
pub here_goes_on : (p : Program) (t : Path) (e : Mask) (u : ℕ) (us : List ℕ) → IsPath p t
    → AreOn p t e → members_from e 0 ≡ u ∷ us →
    is_terminal p (state_of (here p t)) ≡ false
here_goes_on p t e u us h on some = over_some p (state_of (here p t)) u us
    (sym (node_enabled p t.steps.items e on (of_here p t h)) ∙ some)

here_is_over : (p : Program) (t : Path) (e : Mask) → IsPath p t → AreOn p t e →
    members_from e 0 ≡ [] → is_terminal p (state_of (here p t)) ≡ true
here_is_over p t e h on none = over_none p (state_of (here p t))
    (sym (node_enabled p t.steps.items e on (of_here p t h)) ∙ none)

none_kept : (mode : Mode) (p : Program) (t : Path) (e : Mask) → IsPath p t → AreOn p t e
    → members_from e 0 ≡ [] →
    children mode (here p t) ≡ []
none_kept mode p t e h on none =
    ap (λ (ts : List ℕ). children_of mode (here p t) (filter (is_kept_step mode (here p t)) ts))
    (sym (node_enabled p t.steps.items e on (of_here p t h)) ∙ none)

-- other threads are still to be tried
pub search_turned : {b : Found} (mode : Mode) (i : ItemView) (old new : Path) (f : Found)
    (rest others : List ItemView) → IsSearch b mode i old f rest → IsTurned old new
    → new.depth ≤ length new.frames.items → rest ≡ others → IsSearch b mode i new f others
search_turned {b} mode i old new f rest others h o room same = record {
  place = place_turned i.program old new h.place o room;
  walked = subst (IsWalkedOn b mode i f) same h.walked;
  shared = shared_same old.steps.items new.steps.items f h.shared o.steps;
}

-- a node where something is enabled gives way to its children
pub past_deferred : {b : Found} (mode : Mode) (i : ItemView) (w : List ℕ) (n : Node) (f g : Found)
    (e past : Mask) (above : List ItemView) →
    IsWalkedOn b mode i f (item_of i.program w n ∷ above) → IsNode i.program w e n →
    IsOf i.program (state_at i.program w) → is_terminal i.program (state_at i.program w) ≡ false →
    ((u : ℕ) → has past u ≡ (has e u && is_put_off_at mode (item_of i.program w n) e n u)) →
    g.part ≡ with_beyond f.part (f.part.beyond || not (is_empty (members_from past 0))) →
    g.rest.items ≡ f.rest.items →
    HasPut f (map (λ u. w ++ u ∷ []) (members_from past 0)) g →
    IsWalkedOn b mode i g (children mode (item_of i.program w n) ++ above)
past_deferred {b} mode i w n f g e past above h node of more passed part rest put = record {
  own = with_beyond h.own (h.own.beyond || passes_bound mode c);
  put = h.put ++ beside (past_steps mode c);
  walked = subst (λ (ds : List ItemView). IsWalked (walk_of mode i
      (with_beyond h.own (h.own.beyond || passes_bound mode c)) (children mode c ++ above) ds))
      (sym (deferred_are mode c h.put))
      (walked_node mode i c h.own above (items_at p h.put) of more h.walked);
  sound = h.sound;
  part = part
      ∙ (ap (λ (ts : List ℕ). with_beyond f.part (f.part.beyond || not (is_empty ts))) members
      ∙ (ap (λ (s : SummaryView). with_beyond s (s.beyond || passes_bound mode c)) h.part
      ∙ join_beyond_on b.part h.own (passes_bound mode c) h.sound
      (own_kept mode i f (c ∷ above) h)));
  rest = rest ∙ h.rest;
  deferred = put_more b f g h.put (beside (past_steps mode c)) h.deferred
      (subst (λ (ts : List ℕ). HasPut f (beside ts) g) members put);
}
  where
    p : Program
    p = i.program

    c : ItemView
    c = item_of p w n

    members : members_from past 0 ≡ past_steps mode c
    members = past_members mode p w e n past node of passed

    beside : List ℕ → List (List ℕ)
    beside ts = map (λ u. w ++ u ∷ []) ts

-- no step passes the bound, so none is put off
none_put : (on past seen : Bool) → (on && past) ≡ false → (on && (past && seen)) ≡ false
none_put true true seen h = absurd (false≢true (sym h))
none_put true false seen h = refl
none_put false past seen h = refl

-- so the walk is at its first child
pub expanded_node : {b : Found} (mode : Mode) (i : ItemView) (old new : Path) (f : Found) (e : Mask)
    (u : ℕ) (us : List ℕ) → IsSearch b mode i old f (open_here mode i.program old) →
    AreOn i.program old e → IsTurned old new →
    ((t : ℕ) → has new.node.todo t ≡ (has e t && is_tried_at mode (here i.program old) e old.node t)) →
    ((t : ℕ) → (has e t && is_past_at mode e old.node t) ≡ false) →
    members_from e 0 ≡ u ∷ us → new.depth ≤ length new.frames.items
    → IsSearch b mode i new f (still_open mode i.program new)
unfolding members_from
expanded_node {b} mode i old new f e u us h on o kept free some room =
    let p : Program = i.program in
    record {
      place = place_turned p old new h.place o room;
      walked = subst (IsWalkedOn b mode i f) (sym (open_opened mode p old new e h.place on o kept))
          (past_deferred mode i old.steps.items old.node f f e no_threads (left_above mode p old)
          h.walked
          (node_of p old e h.place.path on) (of_here p old h.place.path)
          (here_goes_on p old e u us h.place.path on some)
          (λ t. empty_has t ∙ sym (none_put (has e t) _ _ (free t)))
          (ap (with_beyond f.part) (sym (ap (λ (ts : List ℕ). f.part.beyond || not (is_empty ts))
          none ∙ or-false f.part.beyond)))
          refl
          (subst (λ (ts : List ℕ). HasPut f (map (λ t. old.steps.items ++ t ∷ []) ts) f) (sym none)
          (put_none f f refl refl)));
      shared = shared_same old.steps.items new.steps.items f h.shared o.steps;
    }
  where
    none : members_from no_threads 0 ≡ []
    none = members_over no_threads 0 16 (omega arith) (λ k l. empty_has (0 + k))

-- a complete schedule
pub expanded_leaf : {b : Found} (mode : Mode) (i : ItemView) (old new : Path) (f g : Found)
    (e : Mask) (w : List ℕ) (v : View) → IsSearch b mode i old f (open_here mode i.program old) →
    AreOn i.program old e → IsTurned old new →
    ((t : ℕ) → has new.node.todo t ≡ (has e t && is_tried_at mode (here i.program old) e old.node t)) →
    members_from e 0 ≡ [] → w ≡ old.steps.items
    → v ≡ view_at (state_at i.program old.steps.items) →
    g ≡ record f { part = g.part } → g.part ≡ added f.part w v →
    new.depth ≤ length new.frames.items → IsSearch b mode i new g (still_open mode i.program new)
expanded_leaf {b} mode i old new f g e w v h on o kept none schedule view same part room =
    let p : Program = i.program in
    let c : ItemView = here p old in
    let deferred = ap (λ (x : Found). x.deferred) same in
    let open_is : still_open mode p new ≡ left_above mode p old =
    open_opened mode p old new e h.place on o kept ∙
    ap (λ (cs : List ItemView). cs ++ left_above mode p old)
    (none_kept mode p old e h.place.path on none) in
    record {
      place = place_turned p old new h.place o room;
      walked = subst (IsWalkedOn b mode i g) (sym open_is)
          (leaf_on mode i c f g (left_above mode p old)
          (here_is_over p old e h.place.path on none) h.walked
          (part ∙ (λ k. added f.part (schedule k) (view k)))
          (ap (λ (x : Found). x.rest.items) same) (ap (λ (x : Found). x.lists) same) deferred);
      shared = shared_kept old.steps.items new.steps.items f g h.shared o.steps deferred
          (ap (λ (x : Found). x.shared) same);
    }

-- how far there is to go then
pub falls_node : (mode : Mode) (p : Program) (old new : Path) (e : Mask) (u : ℕ) (us : List ℕ)
    → IsPlace p old → AreOn p old e → IsTurned old new →
    ((t : ℕ) → has new.node.todo t ≡ (has e t && is_tried_at mode (here p old) e old.node t)) →
    members_from e 0 ≡ u ∷ us →
    turns_left mode p new + 2 ≤ turns_from mode p old
unfolding turns_left turns_from
falls_node mode p old new e u us h on o kept some =
    let a = ap costs (open_opened mode p old new e h on o kept) ∙ costs-append
    (children mode (here p old)) (left_above mode p old) in
    let b = children_cost mode (here p old) (of_here p old h.path)
    (here_goes_on p old e u us h.path on some) in
    let k = ap (λ fs. length fs) o.frames in
    omega (arith, a, b, k)

pub falls_leaf : (mode : Mode) (p : Program) (old new : Path) (e : Mask) → IsPlace p old
    → AreOn p old e → IsTurned old new →
    ((t : ℕ) → has new.node.todo t ≡ (has e t && is_tried_at mode (here p old) e old.node t)) →
    members_from e 0 ≡ [] →
    turns_left mode p new + 2 ≤ turns_from mode p old
unfolding turns_left turns_from
falls_leaf mode p old new e h on o kept none =
    let a = ap costs (open_opened mode p old new e h on o kept ∙
    ap (λ (cs : List ItemView). cs ++ left_above mode p old)
    (none_kept mode p old e h.path on none))
    in
    let b = cost_two (here p old) in
    let k = ap (λ fs. length fs) o.frames in
    omega (arith, a, b, k)

pub tried_added : (a : SummaryView) (w : List ℕ) (v : View) → (added a w v).tried ≤ a.tried + 1
unfolding added
tried_added a w v = least (a.tried + 1) greatest_count
  where
    least : (m n : ℕ) → min m n ≤ m
    least m n = grind arith

-- the walk takes the branch to the first child that is open
pub child_enabled : (mode : Mode) (p : Program) (t : Path) (u : ℕ)
    → IsItem (child_of mode (here p t) u) → is_enabled p (state_at p t.steps.items) u ≡ true
child_enabled mode p t u i = step_enabled p t.steps.items u i

pub search_enabled : {b : Found} (mode : Mode) (i : ItemView) (t : Path) (f : Found) (u : ℕ)
    (rs : List ItemView) → IsSearch b mode i t f (child_of mode (here i.program t) u ∷ rs) →
    is_enabled i.program (state_at i.program t.steps.items) u ≡ true
search_enabled mode i t f u rs h = child_enabled mode i.program t u
    (first_on mode i (child_of mode (here i.program t) u) f rs h.walked).item

-- what is known of what comes next
pub next_is : {b : Found} (mode : Mode) (i : ItemView) (t : Path) (f : Found) (u : ℕ) (on is : Bool)
    → on ≡ is → IsSearch b mode i t f (open_next mode i.program t u on)
    → IsSearch b mode i t f (open_next mode i.program t u is)
next_is {b} mode i t f u on is e =
    subst (λ (x : Bool). IsSearch b mode i t f (open_next mode i.program t u x)) e

-- how far there is to go where the step of an enabled thread is the next one
pub below_turns : (mode : Mode) (p : Program) (old new : Path) (u : ℕ) → IsTurned old new
    → is_enabled p (state_at p old.steps.items) u ≡ true
    → turns_into mode p new u ≤ turns_from mode p old
unfolding turns_from turns_into
below_turns mode p old new u o on =
    let w = old.steps.items in
    let same : cost_of (child_of mode (here p new) u) ≡ cost_of (child_of mode (here p old) u) =
    λ k. cost_of (child_of mode (here_turned p old new o k) u) in
    let falls : work p (state_at p (w ++ u ∷ [])) < work p (state_at p w) =
    subst (λ (s : Snapshot). work p s < work p (state_at p w))
    (sym (state_after-push p (start p) w u)) (work-step p (state_at p w) u on) in
    let less = turns_more (work p (state_at p (w ++ u ∷ []))) (work p (state_at p w))
    (omega (arith, falls)) in
    let left = ap costs (left_turned mode p old new o) in
    let k = ap (λ fs. length fs) o.frames in
    omega (arith, same, less, left, k)

-- a frame is pushed for the node, or none
pub pushed_place : (p : Program) (old new : Path) → IsPlace p old → IsPath p new
    → IsPushed p old new → IsPlace p new
pushed_place p old new h path o = record {
  path = path;
  some = let s = h.some in let e = o.base in omega (arith, s, e);
  base = let b = h.base in let e = o.base in let d = o.depth in omega (arith, b, e, d);
}

pub pushed_if_open : (p : Program) (old new : Path) → IsPlace p old → IsPushed p old new
    → IsPushedIfOpen p old new
pushed_if_open p old new h o = record {
  steps = o.steps;
  node = o.node;
  depth = let d = o.depth in omega (arith, d);
  left = λ mode. o.left mode h.base;
}

pub pushed_search : {b : Found} (mode : Mode) (i : ItemView) (old new : Path) (f : Found) (u : ℕ) →
    IsSearch b mode i old f
    (child_of mode (here i.program old) u ∷ still_open mode i.program old) →
    IsPlace i.program new → IsPushedIfOpen i.program old new
    → IsSearch b mode i new f (open_below mode i.program new u)
pushed_search {b} mode i old new f u h place e =
    let p : Program = i.program in
    record {
      place = place;
      walked = subst (IsWalkedOn b mode i f)
          (λ k. child_of mode (item_of p (sym e.steps k) (sym e.node k)) u
          ∷ sym (e.left mode) k) h.walked;
      shared = shared_same old.steps.items new.steps.items f h.shared e.steps;
    }

pub pushed_turns : (mode : Mode) (p : Program) (old new : Path) (u : ℕ) → IsPushedIfOpen p old new →
    turns_into mode p new u ≤ cost_of (child_of mode (here p old) u) + turns_left mode p old + 1
unfolding turns_left turns_into
pushed_turns mode p old new u e =
    let same : cost_of (child_of mode (here p new) u) ≡ cost_of (child_of mode (here p old) u) =
    λ k. cost_of (child_of mode (item_of p (e.steps k) (e.node k)) u) in
    let b = ap costs (e.left mode) in
    let k = e.depth in
    omega (arith, same, b, k)

-- it backtracks to a node above
pub popped_search : {b : Found} (mode : Mode) (i : ItemView) (old new : Path) (f g : Found)
    (n : ℕ) → IsSearch b mode i old f (still_open mode i.program old) → IsPlace i.program new
    → still_open mode i.program new ≡ still_open mode i.program old
    → new.steps.items ≡ take (length new.steps.items) old.steps.items → n ≡ length new.steps.items
    → g ≡ record f { shared = min f.shared n }
    → IsSearch b mode i new g (still_open mode i.program new)
popped_search {b} mode i old new f g n h place same steps long found =
    subst (λ (x : Found). IsSearch b mode i new x (still_open mode i.program new)) (sym found)
    (record {
      place = place;
      walked = moved (subst (IsWalkedOn b mode i f) (sym same) h.walked);
      shared = record {
        fits = let m : min f.shared n ≤ n = right f.shared n in omega (arith, m, long);
        same = shared_back old.steps.items new.steps.items f (min f.shared n) h.shared steps
            (left f.shared n) (let m : min f.shared n ≤ n = right f.shared n in
            omega (arith, m, long));
      };
    })
  where
    moved : {rest : List ItemView} → IsWalkedOn b mode i f rest
        → IsWalkedOn b mode i (record f { shared = min f.shared n }) rest
    moved w = record {
      own = w.own;
      put = w.put;
      walked = w.walked;
      sound = w.sound;
      part = w.part;
      rest = w.rest;
      deferred = put_same b f (record f { shared = min f.shared n }) w.put w.deferred refl refl;
    }

    left : (a b : ℕ) → min a b ≤ a
    left a b = grind arith

    right : (a b : ℕ) → min a b ≤ b
    right a b = grind arith
