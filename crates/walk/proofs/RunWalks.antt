-- A walk along a run: at each node between its steps those of the other threads are put off.
use Rattle.std.proofs.Common.{◌≡◌, ◌≢◌, ℕ, zero, suc, ◌+◌, ◌-◌, ◌<◌, ◌≤◌, Bool, true, false, ◌&&◌, ◌||◌, not, List, [], ◌∷◌, ◌++◌, length, take, map, replicate, Some, nat_eq, get_or, refl, ap, ◌∙◌, sym, subst, arith, ◌⊎◌, inl, inr}
use Rattle.std.specs.declared.{alloc.Global.Global, vec.Vec.Vec}
use Rattle.std.proofs.lemmas.Bool.{false≢true, cases_lt, not-true, Decides.nat_tests}
use Rattle.std.proofs.lemmas.List.{take_all, take_more, append-nil, length-append, length-replicate}
use Rattle.guest_code.specs.{Program.Program, declared.limits.TheConstants.THREADS}
use Rattle.semantics.specs.{Ends.is_empty, Machine.{Snapshot, start, is_enabled}}
use Rattle.semantics.specs.Mask.{has, members_from, mask_of, HasEnabled}
use Rattle.semantics.specs.{Reachable.IsOf, Work.work, declared.mask.Mask.Mask}
use Rattle.semantics.proofs.Masks.{has-mask_of, has-above, mask_of-fits}
use Rattle.semantics.proofs.WorkFalls.{work-step, disabled_past}
use Rattle.semantics_schedules.proofs.UnfoldingUnderPrefix.{state_after-push}
use Rattle.semantics_machine.specs.declared.machine.Run.{Run}
use Rattle.walk_summary.specs.Summaries.{with_beyond}
use Rattle.walk_items.specs.Children.{child_of, is_hidden_after, mask_after, cost_of, costs}
use Rattle.walk_items.specs.{Items.ItemView, Walks.listed_if, declared.mode.Mode.Mode}
use Rattle.walk_items.specs.declared.mode.Mode.TheVariants.{Bounded, Reduced, BoundedOnce, ReducedOnce}
use Rattle.walk_items.proofs.Turns.{turns_more}
use Rattle.walk.specs.declared.{found.Found.Found, path.Node.Node, path.Path.Path}
use Rattle.walk.specs.inner.Paths.{used_frames, state_at, IsNode, IsPath, ReachesNode}
use Rattle.walk.specs.inner.WalkerInvariant.{item_of, here, left_above, at_bound, open_here}
use Rattle.walk.specs.inner.WalkerInvariant.{open_below, turns_from, turns_into, IsPlace, IsShared}
use Rattle.walk.specs.inner.WalkerInvariant.{HasPut, IsWalkedOn, IsSearch, IsAlong, IsExtended}
use Rattle.walk.proofs.Expansions.{IsTurned, search_turned, here_turned, left_turned}
use Rattle.walk.proofs.LoneSteps.{and_left, and_right, at_bound_is, lone_walked}
use Rattle.walk.proofs.{PathSteps.path_same, RunSteps.{run_take, run_push, reached_of}}
use Rattle.walk.proofs.SharedSteps.{shared_entered}

-- the node after the first step is the child to which the branch was taken

first_step : {heedless : Bool} (p : Program) (mode : Mode) (old new : Path) (u : ℕ) (asleep : Mask)
    (run : Run) → IsExtended p mode old new u asleep heedless run
    → take (length old.steps.items + 1) new.steps.items ≡ old.steps.items ++ u ∷ []
first_step p mode old new u asleep run h =
    run_take old.steps.items new.steps.items u run.steps 1 h.steps h.some

first_item : {heedless : Bool} (p : Program) (mode : Mode) (old new : Path) (u : ℕ) (asleep : Mask)
    (run : Run) → IsExtended p mode old new u asleep heedless run
    → asleep ≡ mask_after mode (here p old) u
    → item_of p (take (length old.steps.items + 1) new.steps.items) new.node
    ≡ child_of mode (here p old) u
first_item p mode old new u asleep run h mask = λ k. record {
  program = p;
  prefix = first_step p mode old new u asleep run h k;
  mask = (h.asleep ∙ mask) k;
}

pub along_begun : {b : Found} {heedless : Bool} (mode : Mode) (i : ItemView) (old new : Path)
    (f : Found) (u : ℕ) (asleep : Mask) (run : Run)
    → IsSearch b mode i old f (open_below mode i.program old u)
    → IsExtended i.program mode old new u asleep heedless run
    → asleep ≡ mask_after mode (here i.program old) u
    → IsAlong b mode i new f (length old.steps.items + 1)
along_begun {b} mode i old new f u asleep run h extended mask = record {
  walked = subst (IsWalkedOn b mode i f)
      (λ k. sym (first_item i.program mode old new u asleep run extended mask) k
      ∷ sym (extended.left mode h.place.base) k) h.walked;
  shared = shared_entered old.steps.items _ u f h.shared
      (first_step i.program mode old new u asleep run extended);
}

-- at the bound nobody sleeps
same_mask : (mode : Mode) (n : Node) (c d : ItemView) (u : ℕ) → at_bound mode n ≡ true
    → mask_after mode c u ≡ mask_after mode d u
same_mask (Bounded bound) n c d u h = refl
same_mask Reduced n c d u h = absurd (false≢true h)
same_mask (BoundedOnce bound) n c d u h = refl
same_mask ReducedOnce n c d u h = absurd (false≢true h)

-- at a node between, the steps of the others are put off, and it gives way to the next
pub along_next : {b : Found} (mode : Mode) (i c : ItemView) (t : Path) (f g : Found)
    (e others past : Mask) (u place : ℕ) → IsAlong b mode i t f place
    → take (place + 1) t.steps.items ≡ take place t.steps.items ++ u ∷ []
    → IsNode i.program (take place t.steps.items) e t.node
    → IsOf i.program (state_at i.program (take place t.steps.items))
    → t.node.last ≡ Some u → t.node.asleep ≡ mask_after mode c u
    → (at_bound mode t.node && has e u) ≡ true → has others u ≡ false
    → ((v : ℕ) → v ≢ u → has others v ≡ has e v)
    → ((v : ℕ) → has past v ≡ (has others v
    && not (is_hidden_after mode (item_of i.program (take place t.steps.items) t.node) v)))
    → g.part ≡ with_beyond f.part (f.part.beyond || not (is_empty (members_from past 0)))
    → g.rest ≡ f.rest
    → HasPut f (map (λ v. take place t.steps.items ++ v ∷ []) (members_from past 0)) g
    → IsShared (take place t.steps.items) g → IsAlong b mode i t g (place + 1)
along_next {b} mode i c t f g e others past u place h more node of last asleep alone out apart seen
    part rest put shared = record {
      walked = subst (λ (j : ItemView). IsWalkedOn b mode i g (j ∷ left_above mode i.program t))
          (λ k. record {
            program = i.program;
            prefix = sym more k;
            mask = (same_mask mode t.node
                (item_of i.program (take place t.steps.items) t.node) c u
                (and_left _ (has e u) alone) ∙ sym asleep) k;
          })
          (lone_walked mode i (take place t.steps.items) t.node f g e others past u
          (left_above mode i.program t) h.walked node of last
          (at_bound_is mode t.node (and_left _ (has e u) alone))
          (and_right (at_bound mode t.node) (has e u) alone) out apart seen part rest put);
      shared = shared_entered (take place t.steps.items) _ u g shared more;
    }

-- there is less to do at the next
pub along_falls : (p : Program) (t : Path) (u place : ℕ)
    → take (place + 1) t.steps.items ≡ take place t.steps.items ++ u ∷ []
    → is_enabled p (state_at p (take place t.steps.items)) u ≡ true
    → cost_of (item_of p (take (place + 1) t.steps.items) t.node)
    ≤ cost_of (item_of p (take place t.steps.items) t.node)
along_falls p t u place more on =
    let w = take place t.steps.items in
    let falls : work p (state_at p (take (place + 1) t.steps.items)) < work p (state_at p w) =
    subst (λ (s : Snapshot). work p s < work p (state_at p w))
    (sym (ap (state_at p) more ∙ state_after-push p (start p) w u))
    (work-step p (state_at p w) u on) in
    turns_more (work p (state_at p (take (place + 1) t.steps.items))) (work p (state_at p w))
    (omega (arith, falls))

-- where the run ends
pub along_done : {b : Found} (mode : Mode) (i : ItemView) (t new : Path) (f : Found) (place : ℕ)
    → IsAlong b mode i t f place → place ≡ length t.steps.items → IsPlace i.program t
    → IsTurned t new → new.depth ≤ length new.frames.items
    → IsSearch b mode i new f (open_here mode i.program new)
along_done {b} mode i t new f place h long at o room =
    search_turned mode i t new f (open_here mode i.program t) _ (record {
      place = at;
      walked = subst (λ (w : List ℕ). IsWalkedOn b mode i f
          (item_of i.program w t.node ∷ left_above mode i.program t)) all h.walked;
      shared = subst (λ (w : List ℕ). IsShared w f) all h.shared;
    }) o room (λ k. sym (here_turned i.program t new o) k
    ∷ sym (left_turned mode i.program t new o) k)
  where
    all : take place t.steps.items ≡ t.steps.items
    all = take_all place t.steps.items (omega (arith, long))

pub along_turns : {heedless : Bool} (mode : Mode) (p : Program) (old t new : Path) (u : ℕ)
    (asleep : Mask) (run : Run) (place : ℕ) → IsExtended p mode old t u asleep heedless run
    → asleep ≡ mask_after mode (here p old) u → old.base ≤ length (used_frames old)
    → cost_of (item_of p (take place t.steps.items) t.node)
    ≤ cost_of (item_of p (take (length old.steps.items + 1) t.steps.items) t.node)
    → place ≡ length t.steps.items → IsTurned t new
    → turns_from mode p new ≤ turns_into mode p old u
unfolding turns_from turns_into
along_turns mode p old t new u asleep run place extended mask within falls long o =
    let all : take place t.steps.items ≡ t.steps.items =
    take_all place t.steps.items (omega (arith, long)) in
    let first = ap cost_of (first_item p mode old t u asleep run extended mask) in
    let last = ap cost_of (here_turned p t new o) in
    let same = ap (λ (w : List ℕ). cost_of (item_of p w t.node)) all in
    let left = ap costs (left_turned mode p t new o ∙ extended.left mode within) in
    let frames = ap (λ fs. length fs) (o.frames ∙ extended.frames) in
    omega (arith, falls, first, last, same, left, frames)

-- the way is longer by then
pub run_further : {heedless : Bool} (p : Program) (mode : Mode) (old new : Path) (u : ℕ)
    (asleep : Mask) (run : Run) → IsExtended p mode old new u asleep heedless run
    → length new.steps.items ≡ length old.steps.items + run.steps
run_further p mode old new u asleep run h =
    let a = ap (λ (w : List ℕ). length w) h.steps in
    let b = length-append old.steps.items (replicate run.steps u) in
    let d = length-replicate run.steps u in
    omega (arith, a, b, d)

-- at a place between its steps
module _ {heedless : Bool} (p : Program) (mode : Mode) (old t : Path) (u : ℕ) (asleep : Mask)
    (run : Run) (place : ℕ) (path : IsPath p t) (h : IsExtended p mode old t u asleep heedless run)
    (from : length old.steps.items + 1 ≤ place) (inside : place < length t.steps.items) where
  abbrev gap : ℕ
  gap = place - length old.steps.items

  some : 1 ≤ gap
  some = omega (arith, from)

  few : gap < run.steps
  few = let more = run_further p mode old t u asleep run h in omega (arith, from, inside, more)

  steps_at : take place t.steps.items ≡ old.steps.items ++ replicate gap u
  steps_at = ap (λ n. take n t.steps.items)
      (let e : place ≡ length old.steps.items + gap = omega (arith, from) in e)
      ∙ run_take old.steps.items t.steps.items u run.steps gap h.steps (omega (arith, few))

  pub more_at : take (place + 1) t.steps.items ≡ take place t.steps.items ++ u ∷ []
  more_at = ap (λ n. take n t.steps.items)
      (let e : place + 1 ≡ length old.steps.items + (gap + 1) = omega (arith, from) in e)
      ∙ (run_take old.steps.items t.steps.items u run.steps (gap + 1) h.steps (omega (arith, few))
      ∙ (run_push old.steps.items u gap ∙ sym (ap (λ (w : List ℕ). w ++ u ∷ []) steps_at)))

  pub reaches_at : ReachesNode p (take place t.steps.items) t.node
  reaches_at = subst (λ (w : List ℕ). ReachesNode p w t.node) (sym steps_at)
      (h.between gap some few)

  pub on_at : is_enabled p (state_at p (take place t.steps.items)) u ≡ true
  on_at = subst (λ (w : List ℕ). is_enabled p (state_at p w) u ≡ true) (sym steps_at)
      (h.enabled gap some few)

  pub among_at : heedless ≡ false → HasEnabled run.among p (state_at p (take place t.steps.items))
  among_at off = subst (λ (w : List ℕ). HasEnabled run.among p (state_at p w)) (sym steps_at)
      (h.among off gap some few)

  pub of_at : IsOf p (state_at p (take place t.steps.items))
  of_at = reached_of p (take place t.steps.items) path.well_formed reaches_at.runs

  pub bound_at : at_bound mode t.node ≡ true
  bound_at = h.bound (omega (arith, some, few))

  -- where these are enabled
  pub node_at : (e : Mask) → HasEnabled e p (state_at p (take place t.steps.items))
      → IsNode p (take place t.steps.items) e t.node
  node_at e on = record { reaches = reaches_at; enabled = on }

  pub alone_at : (e : Mask) → HasEnabled e p (state_at p (take place t.steps.items))
      → (at_bound mode t.node && has e u) ≡ true
  alone_at e on = λ k. bound_at k && (on u ∙ on_at) k

-- the path where but for its steps nothing changed, and they are the same
pub same_turned : (t l : Path) (steps : Vec ℕ Global) → l ≡ record t { steps = l.steps }
    → steps.items ≡ t.steps.items → IsTurned t (record l { steps = steps })
same_turned t l steps same items = record {
  steps = items;
  last = ap (λ (x : Path). x.node.last) same;
  used = ap (λ (x : Path). x.node.used) same;
  asleep = ap (λ (x : Path). x.node.asleep) same;
  machine = ap (λ (x : Path). x.machine) same;
  size = ap (λ (x : Path). x.size) same;
  frames = ap (λ (x : Path). used_frames x) same;
  words = ap (λ (x : Path). x.words.items) same;
  base = ap (λ (x : Path). x.base) same;
}

pub same_room : (p : Program) (t l : Path) → l ≡ record t { steps = l.steps } → IsPath p t
    → l.depth ≤ length l.frames.items
same_room p t l same h = subst (λ (x : Path). x.depth ≤ length x.frames.items) (sym same) h.room

pub same_path : (p : Program) (t l : Path) (steps : Vec ℕ Global)
    → l ≡ record t { steps = l.steps } → steps.items ≡ t.steps.items → IsPath p t
    → IsPath p (record l { steps = steps })
same_path p t l steps same items h =
    let o = same_turned t l steps same items in
    path_same p t (record l { steps = steps }) h o.steps o.last o.used o.machine o.size o.frames
    o.words (same_room p t l same h)

-- what the path of a place is extended to
pub extended_place : {heedless : Bool} (p : Program) (mode : Mode) (old new : Path) (u : ℕ)
    (asleep : Mask) (run : Run)
    → IsPlace p old → IsPath p new → IsExtended p mode old new u asleep heedless run
    → IsPlace p new
extended_place p mode old new u asleep run h path e = record {
  path = path;
  some = let s = h.some in let k = e.base in omega (arith, s, k);
  base = let b = h.base in let k = e.base in let d = ap (λ fs. length fs) e.frames in
      omega (arith, b, k, d);
}

-- at a node between, all that is put off is noted already: what a thread is enabled beside
pub record AreNoted (mode : Mode) (n : Node) (p : Program) (w : List ℕ) (u : ℕ) (f : Found)
    : Type 0 where
  pub on : Mask
  pub apart : Mask
  pub past : Mask
  pub enabled : HasEnabled on p (state_at p w)
  pub out : has apart u ≡ false
  pub others : (v : ℕ) → v ≢ u → has apart v ≡ has on v
  pub seen : (v : ℕ) → has past v
      ≡ (has apart v && not (is_hidden_after mode (item_of p w n) v))
  pub unlisted : f.lists ≡ false
  pub beyond : (f.part.beyond || not (is_empty (members_from past 0))) ≡ f.part.beyond

-- which is so of all sets where it is noted and none is listed
pub noted_all : (mode : Mode) (n : Node) (p : Program) (w : List ℕ) (u : ℕ) (f : Found)
    → IsOf p (state_at p w) → (not f.lists && f.part.beyond) ≡ true → AreNoted mode n p w u f
noted_all mode n p w u f of h = record {
  on = mask_of is_on;
  apart = mask_of is_other;
  past = mask_of is_seen;
  enabled = all is_on off;
  out = all is_other outside u ∙ (ap (λ b. is_on u && not b) (let z : nat_eq u u ≡ true =
      grind (arith, nat_tests) in z) ∙ none (is_on u));
  others = λ v ne. all is_other outside v ∙ (ap (λ b. is_on v && not b) (let z : nat_eq v u ≡ false =
      grind (arith, nat_tests, ne) in z) ∙ (same (is_on v) ∙ sym (all is_on off v)));
  seen = λ v. all is_seen unseen v
      ∙ ap (λ b. b && not (is_hidden_after mode (item_of p w n) v)) (sym (all is_other outside v));
  unlisted = not-true f.lists (and_left (not f.lists) f.part.beyond h);
  beyond = already f.part.beyond _ (and_right (not f.lists) f.part.beyond h);
}
  where
    is_on : ℕ → Bool
    is_on v = is_enabled p (state_at p w) v

    is_other : ℕ → Bool
    is_other v = is_on v && not (nat_eq v u)

    is_seen : ℕ → Bool
    is_seen v = is_other v && not (is_hidden_after mode (item_of p w n) v)

    off : (v : ℕ) → THREADS ≤ v → is_on v ≡ false
    off v far = disabled_past p (state_at p w) v (omega (arith, of.few, far))

    outside : (v : ℕ) → THREADS ≤ v → is_other v ≡ false
    outside v far = ap (λ b. b && not (nat_eq v u)) (off v far)

    unseen : (v : ℕ) → THREADS ≤ v → is_seen v ≡ false
    unseen v far = ap (λ b. b && not (is_hidden_after mode (item_of p w n) v)) (outside v far)

    all : (g : ℕ → Bool) → ((v : ℕ) → THREADS ≤ v → g v ≡ false) → (v : ℕ)
        → has (mask_of g) v ≡ g v
    all g far v = elim (cases_lt v THREADS) [
      | inl l ↦ has-mask_of g v l
      | inr m ↦ has-above (mask_of g) v (mask_of-fits g) m ∙ sym (far v m)
    ]

    none : (b : Bool) → (b && false) ≡ false
    none true = refl
    none false = refl

    same : (b : Bool) → (b && true) ≡ b
    same true = refl
    same false = refl

    already : (a b : Bool) → a ≡ true → (a || b) ≡ a
    already true b is = refl
    already false b is = absurd (false≢true is)

-- from a place between to the run's end
module _ {heedless : Bool} (mode : Mode) (i : ItemView) (old t : Path) (u : ℕ) (asleep : Mask)
    (run : Run) (path : IsPath i.program t)
    (h : IsExtended i.program mode old t u asleep heedless run)
    (mask : asleep ≡ mask_after mode (here i.program old) u) where
  along_rest : {b : Found} (f : Found) (n place : ℕ) → length old.steps.items + 1 ≤ place
      → place + n ≡ length t.steps.items
      → ((k : ℕ) → place ≤ k → k < length t.steps.items
      → AreNoted mode t.node i.program (take k t.steps.items) u f)
      → IsAlong b mode i t f place → IsAlong b mode i t f (length t.steps.items)
  along_rest {b} f zero place from to seen along = subst (λ (k : ℕ). IsAlong b mode i t f k)
      (let e : place ≡ length t.steps.items = omega (arith, to) in e) along
  along_rest {b} f (suc n) place from to seen along =
      let inside : place < length t.steps.items = omega (arith, to) in
      let known = seen place (omega arith) inside in
      along_rest f n (place + 1) (omega (arith, from)) (omega (arith, to))
      (λ k later. seen k (omega (arith, later)))
      (along_next mode i (here i.program old) t f f known.on known.apart known.past u place along
      (more_at i.program mode old t u asleep run place path h from inside)
      (node_at i.program mode old t u asleep run place path h from inside known.on known.enabled)
      (of_at i.program mode old t u asleep run place path h from inside) h.last (h.asleep ∙ mask)
      (alone_at i.program mode old t u asleep run place path h from inside known.on known.enabled)
      known.out known.others known.seen (sym (ap (with_beyond f.part) known.beyond)) refl
      (record {
        lists = refl;
        deferred = sym ((λ k. f.deferred ++ listed_if (known.unlisted k)
            (map (λ v. take place t.steps.items ++ v ∷ []) (members_from known.past 0)))
            ∙ append-nil f.deferred);
      }) along.shared)

  falls_rest : (n place : ℕ) → length old.steps.items + 1 ≤ place
      → place + n ≡ length t.steps.items
      → cost_of (item_of i.program (take (length t.steps.items) t.steps.items) t.node)
      ≤ cost_of (item_of i.program (take place t.steps.items) t.node)
  falls_rest zero place from to =
      let e : length t.steps.items ≡ place = omega (arith, to) in
      let same = ap (λ (k : ℕ). cost_of (item_of i.program (take k t.steps.items) t.node)) e in
      omega (arith, same)
  falls_rest (suc n) place from to =
      let inside : place < length t.steps.items = omega (arith, to) in
      let less = along_falls i.program t u place
      (more_at i.program mode old t u asleep run place path h from inside)
      (on_at i.program mode old t u asleep run place path h from inside) in
      let rest = falls_rest n (place + 1) (omega (arith, from)) (omega (arith, to)) in
      omega (arith, less, rest)

  -- so the walk comes to its end
  module _ (new : Path) (same : new ≡ record t { steps = new.steps })
      (steps : new.steps.items ≡ t.steps.items) (place : ℕ)
      (from : length old.steps.items + 1 ≤ place) (to : place ≤ length t.steps.items) where
    pub run_searched : {b : Found} (f g : Found)
        → IsSearch b mode i old f (open_below mode i.program old u)
        → (IsAlong b mode i t f (length old.steps.items + 1) → IsAlong b mode i t g place)
        → ((k : ℕ) → place ≤ k → k < length t.steps.items
        → AreNoted mode t.node i.program (take k t.steps.items) u g)
        → IsSearch b mode i new g (open_here mode i.program new)
    run_searched f g begun along seen = along_done mode i t new g (length t.steps.items)
        (along_rest g (length t.steps.items - place) place from (omega (arith, to)) seen
        (along (along_begun mode i old t f u asleep run begun h mask))) refl
        (extended_place i.program mode old t u asleep run begun.place path h)
        (same_turned t new new.steps same steps) (same_room i.program t new same path)

    pub run_falls : old.base ≤ length (used_frames old)
        → cost_of (item_of i.program (take place t.steps.items) t.node)
        ≤ cost_of (item_of i.program (take (length old.steps.items + 1) t.steps.items) t.node)
        → turns_from mode i.program new ≤ turns_into mode i.program old u
    run_falls within falls = along_turns mode i.program old t new u asleep run
        (length t.steps.items) h mask within
        (let less = falls_rest (length t.steps.items - place) place from (omega (arith, to)) in
        omega (arith, less, falls)) refl (same_turned t new new.steps same steps)

-- without a bound it is one step

pub way_more : {heedless : Bool} (p : Program) (old new : Path) (w : List ℕ) (place : ℕ)
    (asleep : Mask) (run : Run)
    → IsExtended p Reduced old new (get_or w place 0) asleep heedless run → old.steps.items ≡ take place w
    → place < length w → new.steps.items ≡ take (place + 1) w
way_more p old new w place asleep run h same inside =
    h.steps ∙ ((λ k. same k ++ replicate (one (cases_lt 1 run.steps) k) (get_or w place 0))
    ∙ sym (take_more w place 0 inside))
  where
    one : (1 < run.steps) ⊎ (run.steps ≤ 1) → run.steps ≡ 1
    one (inl more) = absurd (false≢true (h.bound more))
    one (inr few) = let some = h.some in omega (arith, some, few)
