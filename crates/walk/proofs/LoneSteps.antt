-- A thread that goes on alone: the node is at the bound, so that a step of another passes it.
use Rattle.std.proofs.Common.{◌≡◌, ◌≢◌, ℕ, zero, suc, ◌+◌, ◌<◌, ◌≤◌, Bool, true, false, ◌&&◌, ◌||◌}
use Rattle.std.proofs.Common.{nat_eq, nat_le, nat_lt, not, List, [], ◌∷◌, ◌++◌, length, map, refl}
use Rattle.std.proofs.Common.{ap, ◌∙◌, sym, arith, subst, inl, inr, Some, None, Option}
use Rattle.std.specs.{List.filter, declared.alloc.Global.Global, declared.vec.Vec.Vec}
use Rattle.std.proofs.lemmas.Bool.{cases_lt, cases_order, false≢true, Decides.nat_tests}
use Rattle.guest_code.specs.Program.{Program}
use Rattle.semantics.specs.{Ends.{is_empty, is_terminal, enabled}, Machine.{Snapshot, is_enabled}}
use Rattle.semantics.specs.{Mask.{has, members_from, one_if}, Reachable.IsOf, Work.up_from}
use Rattle.semantics.{specs.declared.mask.Mask.Mask, proofs.TerminalStates.is_terminal-some}
use Rattle.semantics.proofs.WorkFalls.{enabled_below}
use Rattle.semantics_schedules.specs.Schedules.{preemptions, last_of}
use Rattle.walk_items.specs.Children.{is_kept_step, kept_steps, child_of, children_of, children}
use Rattle.walk_items.specs.Children.{is_hidden_after}
use Rattle.walk_items.specs.{Items.ItemView, declared.mode.Mode.Mode}
use Rattle.walk_items.specs.declared.mode.Mode.TheVariants.{Bounded, Reduced, BoundedOnce, ReducedOnce}
use Rattle.walk_items.proofs.{Filters.filter_twice, HiddenSteps.lone_once}
use Rattle.walk.specs.declared.{found.Found.Found, path.Node.Node, path.Path.Path}
use Rattle.walk.specs.inner.Paths.{is_preempting, preempts_last, state_at, IsNode, IsPath}
use Rattle.walk.specs.inner.WalkerInvariant.{item_of, here, left_above, is_kept_at, is_past_at, is_put_off_at}
use Rattle.walk.specs.inner.WalkerInvariant.{IsWithinAt, IsFree, has_bound, at_bound, IsAtBound}
use Rattle.walk.specs.inner.WalkerInvariant.{IsSearch}
use Rattle.walk.specs.inner.WalkerInvariant.{HasPut, IsShared, IsWalkedOn, open_here, open_below}
use Rattle.walk.proofs.Expansions.{AreOn, node_of, past_deferred, IsTurned, place_turned, left_turned, here_turned, of_here, turned_here, both_of}
use Rattle.walk.proofs.{SharedSteps.shared_same, WalkTurns.{filter_alike, kept_alike, and_true}}
use Rattle.walk_summary.specs.Summaries.{with_beyond}

-- a number stands once among those from a first one on

only_later : (t first n : ℕ) → t < first → filter (nat_eq t) (up_from first n) ≡ []
only_later t first zero h = refl
only_later t first (suc n) h =
    let e : nat_eq t first ≡ false = grind (arith, nat_tests, h) in
    rw e (only_later t (suc first) n (omega arith))

pub only_here : (t first n : ℕ) → first ≤ t → t < first + n →
    filter (nat_eq t) (up_from first n) ≡ t ∷ []
only_here t first zero from to = absurd (omega arith)
only_here t first (suc n) from to = elim (cases_lt first t) [
  | inl l ↦ (let e : nat_eq t first ≡ false = grind (arith, nat_tests, l) in
      rw e (only_here t (suc first) n (omega arith) (omega arith)))
  | inr g ↦ (let same : first ≡ t = omega arith in
      let e : nat_eq t first ≡ true = grind (arith, nat_tests, same) in
      rw e (λ k. same k ∷ only_later t (suc first) n (omega arith) k))
]

-- where the thread of the last step can go on, a step of any other is a preempting switch
lone_preempts : (e : Mask) (n : Node) (t : ℕ) → n.last ≡ Some t → has e t ≡ true → (u : ℕ) →
    is_preempting e n u ≡ not (nat_eq t u)
lone_preempts e n t last on u =
    ap (λ (l : Option ℕ). preempts_last l e u) last ∙ ap (λ b. b && not (nat_eq t u)) on

-- so its own step is kept, and no other
lone_kept : (bound : ℕ) (e : Mask) (n : Node) (t : ℕ) → n.last ≡ Some t → n.used ≡ bound →
    has e t ≡ true → (u : ℕ) → is_kept_at (Bounded bound) e n u ≡ nat_eq t u
lone_kept bound e n t last used on u =
    (λ k. nat_le (used k + one_if (lone_preempts e n t last on u k)) bound) ∙ test (nat_eq t u)
  where
    test : (b : Bool) → nat_le (bound + one_if (not b)) bound ≡ b
    test true = grind (arith, nat_tests)
    test false = grind (arith, nat_tests)

-- and those of the others pass the bound
lone_past : (bound : ℕ) (e past : Mask) (n : Node) (t : ℕ) → n.last ≡ Some t → n.used ≡ bound →
    has e t ≡ true → has past t ≡ false → ((u : ℕ) → u ≢ t → has past u ≡ has e u) → (u : ℕ) →
    has past u ≡ (has e u && is_past_at (Bounded bound) e n u)
lone_past bound e past n t last used on out same u =
    member u ∙ ap (λ b. has e u && b)
    (sym ((λ k. nat_lt bound (used k + one_if (lone_preempts e n t last on u k)))
    ∙ test (nat_eq t u)))
  where
    test : (b : Bool) → nat_lt bound (bound + one_if (not b)) ≡ not b
    test true = grind (arith, nat_tests)
    test false = grind (arith, nat_tests)

    none : (b : Bool) → (b && false) ≡ false
    none true = refl
    none false = refl

    all : (b : Bool) → (b && true) ≡ b
    all true = refl
    all false = refl

    member : (v : ℕ) → has past v ≡ (has e v && not (nat_eq t v))
    member v = elim (cases_order v t) [
      | inl q ↦ rw q (out ∙ sym (ap (λ b. has e t && not b) (let z : nat_eq t t ≡ true =
          grind (arith, nat_tests) in z)
          ∙ none (has e t)))
      | inr (inl l) ↦ same v (omega arith) ∙ sym (other v (omega arith))
      | inr (inr l) ↦ same v (omega arith) ∙ sym (other v (omega arith))
    ]
      where
        other : (v : ℕ) → v ≢ t → (has e v && not (nat_eq t v)) ≡ has e v
        other v ne = let z : nat_eq t v ≡ false = grind (arith, nat_tests, ne) in
            ap (λ b. has e v && not b) z ∙ all (has e v)

-- the node has one child
module _ (bound : ℕ) (p : Program) (w : List ℕ) (e : Mask) (n : Node) (t : ℕ)
    (h : IsNode p w e n) (last : n.last ≡ Some t) (used : n.used ≡ bound)
    (on : has e t ≡ true) where
  lone_on : is_enabled p (state_at p w) t ≡ true
  lone_on = sym (h.enabled t) ∙ on

  kept_is : (u : ℕ) → is_kept_step (Bounded bound) (item_of p w n) u ≡ nat_eq t u
  kept_is u = sym (kept_alike (Bounded bound) p w e n h u)
      ∙ (and_true _ ∙ lone_kept bound e n t last used on u)

  both : (a b : Bool) → (b ≡ true → a ≡ true) → (a && b) ≡ b
  both true b f = refl
  both false true f = f refl
  both false false f = refl

  own : (u : ℕ) → nat_eq t u ≡ true → is_enabled p (state_at p w) u ≡ true
  own u e =
      let same : t ≡ u = grind (arith, nat_tests, e) in
      subst (λ (v : ℕ). is_enabled p (state_at p w) v ≡ true) same lone_on

  each : (u : ℕ) → (is_enabled p (state_at p w) u && is_kept_step (Bounded bound) (item_of p w n) u)
      ≡ nat_eq t u
  each u = ap (λ b. is_enabled p (state_at p w) u && b) (kept_is u)
      ∙ both (is_enabled p (state_at p w) u) (nat_eq t u) (own u)

  lone_steps : kept_steps (Bounded bound) (item_of p w n) ≡ t ∷ []
  unfolding enabled
  lone_steps =
      let z : Snapshot = state_at p w in
      let all : List ℕ = up_from 0 (length z.threads) in
      let below = enabled_below p z t lone_on in
      filter_twice (is_kept_step (Bounded bound) (item_of p w n)) (is_enabled p z) all
      ∙ (filter_alike (λ u. is_enabled p z u && is_kept_step (Bounded bound) (item_of p w n) u)
      (nat_eq t) all each
      ∙ only_here t 0 (length z.threads) (omega arith) (omega (arith, below)))

-- both are so

pub and_left : (a b : Bool) → (a && b) ≡ true → a ≡ true
and_left true b h = refl
and_left false b h = h

pub and_right : (a b : Bool) → (a && b) ≡ true → b ≡ true
and_right true b h = h
and_right false b h = absurd (false≢true h)

pub or_left : (a b : Bool) → (a || b) ≡ false → a ≡ false
or_left true b h = h
or_left false b h = refl

pub left_so : (a b : Bool) → (a || not b) ≡ true → b ≡ true → a ≡ true
left_so true b h on = refl
left_so false true h on = h
left_so false false h on = on

pub at_bound_is : (mode : Mode) (n : Node) → at_bound mode n ≡ true → IsAtBound mode n
at_bound_is (Bounded bound) n h = grind (arith, nat_tests, h)
at_bound_is Reduced n h = absurd (false≢true h)
at_bound_is (BoundedOnce bound) n h = grind (arith, nat_tests, h)
at_bound_is ReducedOnce n h = absurd (false≢true h)

-- its one child, also with equal threads once
lone_kids : (mode : Mode) (p : Program) (w : List ℕ) (e : Mask) (n : Node) (t : ℕ) → IsNode p w e n
    → n.last ≡ Some t → IsAtBound mode n → has e t ≡ true
    → kept_steps mode (item_of p w n) ≡ t ∷ []
lone_kids (Bounded bound) p w e n t h last used on = lone_steps bound p w e n t h last used on
lone_kids Reduced p w e n t h last used on = absurd used
lone_kids (BoundedOnce bound) p w e n t h last used on =
    lone_once bound (item_of p w n) t (sym h.reaches.last ∙ last)
    (lone_steps bound p w e n t h last used on)
lone_kids ReducedOnce p w e n t h last used on = absurd used

-- and who is put off then: the others, but for the hidden ones
lone_off : (mode : Mode) (c : ItemView) (e others past : Mask) (n : Node) (t : ℕ)
    → n.last ≡ Some t → IsAtBound mode n → has e t ≡ true → has others t ≡ false
    → ((u : ℕ) → u ≢ t → has others u ≡ has e u)
    → ((u : ℕ) → has past u ≡ (has others u && not (is_hidden_after mode c u)))
    → (u : ℕ) → has past u ≡ (has e u && is_put_off_at mode c e n u)
lone_off (Bounded bound) c e others past n t last used on out same seen u = seen u
    ∙ (ap (λ b. b && true) (lone_past bound e others n t last used on out same u)
    ∙ both_of (has e u) _ true)
lone_off Reduced c e others past n t last used on out same seen u = absurd used
lone_off (BoundedOnce bound) c e others past n t last used on out same seen u = seen u
    ∙ (ap (λ b. b && not (is_hidden_after (BoundedOnce bound) c u))
    (lone_past bound e others n t last used on out same u)
    ∙ both_of (has e u) _ (not (is_hidden_after (BoundedOnce bound) c u)))
lone_off ReducedOnce c e others past n t last used on out same seen u = absurd used

-- it gives way to it, and the steps of the others are put off
pub lone_walked : {b : Found} (mode : Mode) (i : ItemView) (w : List ℕ) (n : Node) (f g : Found)
    (e others past : Mask) (t : ℕ) (above : List ItemView) →
    IsWalkedOn b mode i f (item_of i.program w n ∷ above) → IsNode i.program w e n →
    IsOf i.program (state_at i.program w) → n.last ≡ Some t → IsAtBound mode n → has e t ≡ true →
    has others t ≡ false → ((u : ℕ) → u ≢ t → has others u ≡ has e u) →
    ((u : ℕ) → has past u
    ≡ (has others u && not (is_hidden_after mode (item_of i.program w n) u))) →
    g.part ≡ with_beyond f.part (f.part.beyond || not (is_empty (members_from past 0))) →
    g.rest ≡ f.rest →
    HasPut f (map (λ u. w ++ u ∷ []) (members_from past 0)) g →
    IsWalkedOn b mode i g (child_of mode (item_of i.program w n) t ∷ above)
lone_walked {b} mode i w n f g e others past t above h node of last used on out same seen part rest
    put = subst (λ (cs : List ItemView). IsWalkedOn b mode i g (cs ++ above)) kids
    (past_deferred mode i w n f g e past above h node of more
    (lone_off mode (item_of i.program w n) e others past n t last used on out same seen) part
    (ap (λ (r : Vec ItemView Global). r.items) rest) put)
  where
    kids : children mode (item_of i.program w n) ≡ child_of mode (item_of i.program w n) t ∷ []
    kids = ap (children_of mode (item_of i.program w n))
        (lone_kids mode i.program w e n t node last used on)

    more : is_terminal i.program (state_at i.program w) ≡ false
    more = is_terminal-some i.program (state_at i.program w) t (sym (node.enabled t) ∙ on)

-- so a walk is that may take only that step
pub lone_search : {b : Found} (mode : Mode) (i : ItemView) (old : Path) (steps : Vec ℕ Global)
    (f g : Found) (e others past : Mask) (t : ℕ)
    → IsSearch b mode i old f (open_here mode i.program old) →
    AreOn i.program old e → steps.items ≡ old.steps.items → old.node.last ≡ Some t →
    (at_bound mode old.node && has e t) ≡ true →
    has others t ≡ false → ((u : ℕ) → u ≢ t → has others u ≡ has e u) →
    ((u : ℕ) → has past u
    ≡ (has others u && not (is_hidden_after mode (here i.program old) u))) →
    g.part ≡ with_beyond f.part (f.part.beyond || not (is_empty (members_from past 0))) →
    g.rest ≡ f.rest →
    HasPut f (map (λ u. old.steps.items ++ u ∷ []) (members_from past 0)) g →
    IsShared old.steps.items g →
    IsSearch b mode i (record old { steps = steps }) g
    (open_below mode i.program (record old { steps = steps }) t)
lone_search {b} mode i old steps f g e others past t h are same last alone out apart seen part rest
    put shared = record {
      place = place_turned p old new h.place turned h.place.path.room;
      walked = subst (IsWalkedOn b mode i g)
          (λ k. child_of mode (sym (here_turned p old new turned) k) t
          ∷ sym (left_turned mode p old new turned) k)
          (lone_walked mode i old.steps.items old.node f g e others past t (left_above mode p old)
          h.walked (node_of p old e h.place.path are) (of_here p old h.place.path) last
          (at_bound_is mode old.node (and_left (at_bound mode old.node) (has e t) alone))
          (and_right (at_bound mode old.node) (has e t) alone) out apart seen part rest put);
      shared = shared_same old.steps.items steps.items g shared same;
    }
  where
    p : Program
    p = i.program

    new : Path
    new = record old { steps = steps }

    turned : IsTurned old new
    turned = turned_here old new same refl refl refl refl refl refl

-- where the node is not at the bound, or the last thread cannot go on, no step passes the bound

never_past : (bound used : ℕ) (b c : Bool) → used ≤ bound → (nat_eq used bound && b) ≡ false
    → nat_lt bound (used + one_if (b && c)) ≡ false
never_past bound used false c le h = grind (arith, nat_tests, le)
never_past bound used true c le h = fewer c
  where
    all : (b : Bool) → (b && true) ≡ b
    all true = refl
    all false = refl

    ne : nat_eq used bound ≡ false
    ne = sym (all (nat_eq used bound)) ∙ h

    fewer : (c : Bool) → nat_lt bound (used + one_if c) ≡ false
    fewer true = grind (arith, nat_tests, le, ne)
    fewer false = grind (arith, nat_tests, le)

none_in : (b x : Bool) → x ≡ false → (b && x) ≡ false
none_in true x h = h
none_in false x h = refl

free_alone_at : (bound : ℕ) (p : Program) (t : Path) (u : ℕ) → t.node.used ≤ bound
    → t.node.last ≡ Some u
    → (nat_eq t.node.used bound && is_enabled p (state_at p t.steps.items) u) ≡ false
    → IsFree (Bounded bound) p t
free_alone_at bound p t u within last h = λ e on v.
    none_in (has e v) _ ((λ k. nat_lt bound (t.node.used + one_if
    ((ap (λ (l : Option ℕ). preempts_last l e v) last ∙ ap (λ b. b && not (nat_eq u v)) (on u)) k)))
    ∙ never_past bound t.node.used (is_enabled p (state_at p t.steps.items) u) (not (nat_eq u v))
    within h)

pub free_alone : (mode : Mode) (p : Program) (t : Path) (u : ℕ) → IsWithinAt mode t.node
    → t.node.last ≡ Some u
    → (at_bound mode t.node && is_enabled p (state_at p t.steps.items) u) ≡ false
    → IsFree mode p t
free_alone (Bounded bound) p t u within last h = free_alone_at bound p t u within last h
free_alone Reduced p t u within last h = λ e on v. none_in (has e v) false refl
free_alone (BoundedOnce bound) p t u within last h = free_alone_at bound p t u within last h
free_alone ReducedOnce p t u within last h = λ e on v. none_in (has e v) false refl

-- nor does one where no step led to the node
free_first_at : (bound : ℕ) (p : Program) (t : Path) → IsPath p t → t.steps.items ≡ []
    → IsFree (Bounded bound) p t
free_first_at bound p t h none = λ e on v.
    let used : t.node.used ≡ 0 = h.reaches.preemptions ∙ ap (preemptions p) none in
    let last : t.node.last ≡ None = h.reaches.last ∙ ap last_of none in
    none_in (has e v) _ ((λ k. nat_lt bound (used k + one_if (preempts_last (last k) e v)))
    ∙ (let z : nat_lt bound 0 ≡ false = grind (arith, nat_tests) in z))

pub free_first : (mode : Mode) (p : Program) (t : Path) → IsPath p t
    → (has_bound mode ≡ true → t.steps.items ≡ []) → IsFree mode p t
free_first (Bounded bound) p t h none = free_first_at bound p t h (none refl)
free_first Reduced p t h none = λ e on v. none_in (has e v) false refl
free_first (BoundedOnce bound) p t h none = free_first_at bound p t h (none refl)
free_first ReducedOnce p t h none = λ e on v. none_in (has e v) false refl
