-- What is left of an item's schedules where equal threads are tried once: by the next steps, under
-- a longer prefix, and beyond a bound.
use Rattle.std.proofs.Common.{◌≡◌, ℕ, ◌+◌, ◌-◌, ◌<◌, ◌≤◌, Bool, true, false, not, ◌&&◌, nat_eq, nat_le}
use Rattle.std.proofs.Common.{nat_lt, List, [], ◌∷◌, ◌++◌, length, map, drop, Option, None, Some}
use Rattle.std.proofs.Common.{refl, ap, ◌∙◌, sym, subst, arith, append_assoc, inl, inr}
use Rattle.std.specs.List.{filter, flat_map, list_any}
use Rattle.std.proofs.{Math.Bool.and_assoc, lemmas.Bool.{cases_lt, and_parts, and_from, Decides.nat_tests}}
use Rattle.std.proofs.lemmas.List.{append-nil, Folds.{flat_map-map}}
use Rattle.guest_code.specs.Program.{Program}
use Rattle.semantics.specs.{Ends.is_terminal, Machine.{Snapshot, start, step, is_enabled}}
use Rattle.semantics.specs.{Mask.has, Reachable.IsOf, Waiters.In, Work.work}
use Rattle.semantics.proofs.ListMembers.{contains_in, in_contains, from_filter, in_filter, in_map}
use Rattle.semantics.proofs.ListMembers.{from_map}
use Rattle.semantics_schedules.specs.EqualThreads.{Hiding, hides_equal, is_hidden, is_unhidden, complete_once, reduced_once}
use Rattle.semantics_schedules.specs.{Order.end_from, Represents.{Represents}}
use Rattle.semantics_schedules.specs.Schedules.{state_after, runs, before, begins_with, complete_schedules, schedules_under, exceeds_bound, preemptions, preemptions_from, last_after, last_of}
use Rattle.semantics_schedules.specs.Sleep.{reduced_schedules, next_sleep_set}
use Rattle.semantics_schedules.proofs.EqualThreadsOnce.{once_represents_within, complete_once-terminal, complete_once-more, reduced_once-terminal, reduced_once-more}
use Rattle.semantics_schedules.proofs.PrefixesExtend.{last_of-push}
use Rattle.semantics_schedules.proofs.ReducedSchedules.{eq_of, from_enabled, in_any}
use Rattle.semantics_schedules.proofs.SchedulesUnderPrefix.{begins_longer, schedules_under-longer}
use Rattle.semantics_schedules.proofs.UnfoldingUnderPrefix.{state_after-push, schedules_under_is, preemptions_from-append, all_some, exceeds_bound-past}
use Rattle.walk_items.specs.Children.{child_of, children_of, next_steps, is_hidden_after}
use Rattle.walk_items.specs.Children.{is_kept_step, steps_of}
use Rattle.walk_items.specs.Items.{ItemView, IsItem, state_of, everything, goes_beyond}
use Rattle.walk_items.specs.Items.{kept_schedules, unhidden_schedules, unhidden_kept}
use Rattle.walk_items.specs.{Once.once_of, Walks.IsBelow, declared.mode.Mode.Mode}
use Rattle.walk_items.specs.declared.mode.Mode.TheVariants.{Bounded, Reduced, BoundedOnce, ReducedOnce}
use Rattle.walk_items.proofs.Filters.{filter_none, filter_same, filter_twice, list_any-map}
use Rattle.walk_items.proofs.Reduced.{after_prefix, flat_map_alike, reduced_alike, asleep_after}
use Rattle.walk_items.proofs.Reduced.{child_keeps, drop_prefix, map_filter, filter_swap}

-- by the next steps

pub once_terminal : (mode : Mode) (i : ItemView) → is_terminal i.program (state_of i) ≡ true →
    everything (once_of mode) i ≡ i.prefix ∷ []
once_terminal mode i over = itself mode ∙ ap (λ w. w ∷ []) (append-nil i.prefix)
  where
    bounded : unhidden_schedules i ≡ (i.prefix ++ []) ∷ []
    bounded = ap (map (λ w. i.prefix ++ w))
        (complete_once-terminal i.program (state_of i) (last_of i.prefix) over)

    pruned : unhidden_kept i ≡ (i.prefix ++ []) ∷ []
    pruned = ap (map (λ w. i.prefix ++ w))
        (reduced_once-terminal i.program (state_of i) (has i.mask) over)

    itself : (m : Mode) → everything (once_of m) i ≡ (i.prefix ++ []) ∷ []
    itself (Bounded bound) = bounded
    itself Reduced = pruned
    itself (BoundedOnce bound) = bounded
    itself ReducedOnce = pruned

once_alike : (p : Program) (s : Snapshot) (Z Y : ℕ → Bool) →
    ((u : ℕ) → is_enabled p s u ≡ true → Z u ≡ Y u) → reduced_once p s Z ≡ reduced_once p s Y
unfolding reduced_once
once_alike p s Z Y h = ap (filter (is_unhidden (hides_equal p) p s None)) (reduced_alike p s Z Y h)

module _ (i : ItemView) (more : is_terminal i.program (state_of i) ≡ false) where
  abbrev p : Program
  p = i.program

  abbrev s : Snapshot
  s = state_of i

  goes_on : (mode : Mode) (rest : ℕ → List (List ℕ)) →
      everything mode i
      ≡ map (λ w. i.prefix ++ w) (flat_map (λ t. before t (rest t)) (steps_of mode i)) →
      ((t : ℕ) → In (steps_of mode i) t →
      map (λ w. (i.prefix ++ t ∷ []) ++ w) (rest t) ≡ everything mode (child_of mode i t)) →
      everything mode i ≡ flat_map (everything mode) (children_of mode i (steps_of mode i))
  goes_on mode rest first each =
      first
      ∙ (after_prefix i.prefix rest (steps_of mode i)
      ∙ (flat_map_alike _ (λ t. everything mode (child_of mode i t)) (steps_of mode i) each
      ∙ sym (flat_map-map (everything mode) (child_of mode i) (steps_of mode i))))

  pub bounded_once_more : (bound : ℕ) →
      everything (BoundedOnce bound) i
      ≡ flat_map (everything (BoundedOnce bound))
      (children_of (BoundedOnce bound) i (steps_of (BoundedOnce bound) i))
  bounded_once_more bound =
      goes_on (BoundedOnce bound) (λ t. complete_once p (step p s t) (Some t))
      (ap (map (λ w. i.prefix ++ w)) (complete_once-more p s (last_of i.prefix) more))
      (λ t m j. map (λ w. (i.prefix ++ t ∷ []) ++ w)
      (complete_once p (sym (state_after-push p (start p) i.prefix t) j)
      (sym (last_of-push i.prefix t) j)))

  pub pruned_once_more : IsOf i.program (state_of i) →
      everything ReducedOnce i
      ≡ flat_map (everything ReducedOnce)
      (children_of ReducedOnce i (steps_of ReducedOnce i))
  pruned_once_more of =
      goes_on ReducedOnce rest
      (ap (map (λ w. i.prefix ++ w)) (reduced_once-more p s (has i.mask) more
      ∙ ap (flat_map (λ t. before t (rest t)))
      (filter_twice (λ t. not (is_hidden p s None t)) (λ t. not (has i.mask t)) (next_steps i))))
      (λ t m. ap (map (λ w. (i.prefix ++ t ∷ []) ++ w))
      (ap (λ q. reduced_once p q (next_sleep_set p s (has i.mask) t))
      (sym (state_after-push p (start p) i.prefix t))
      ∙ sym (once_alike p (state_of (child_of ReducedOnce i t)) _ _
      (asleep_after i t of (from_enabled p s t
      (from_filter (is_kept_step ReducedOnce i) (next_steps i) t m).0)))))
    where
      rest : ℕ → List (List ℕ)
      rest t = reduced_once p (step p s t) (next_sleep_set p s (has i.mask) t)

pub once_more : (mode : Mode) (i : ItemView) → IsOf i.program (state_of i) →
    is_terminal i.program (state_of i) ≡ false → everything (once_of mode) i ≡
    flat_map (everything (once_of mode)) (children_of (once_of mode) i (steps_of (once_of mode) i))
once_more (Bounded bound) i of more = bounded_once_more i more bound
once_more Reduced i of more = pruned_once_more i more of
once_more (BoundedOnce bound) i of more = bounded_once_more i more bound
once_more ReducedOnce i of more = pruned_once_more i more of

-- what a longer prefix adds

pub begins_rest : (x w : List ℕ) → begins_with x w ≡ true → (v : List ℕ) × (x ++ v ≡ w)
begins_rest [] w h = (w, refl)
begins_rest (t ∷ x) [] h = cc
begins_rest (t ∷ x) (u ∷ w) h =
    let both = and_parts (nat_eq t u) (begins_with x w) h in
    let rest : (v : List ℕ) × (x ++ v ≡ w) = begins_rest x w both.1 in
    (rest.0, λ i. eq_of t u both.0 i ∷ rest.1 i)

pub preemptions_more : (p : Program) (x w : List ℕ) → begins_with x w ≡ true →
    preemptions p x ≤ preemptions p w
preemptions_more p x w h =
    let rest = begins_rest x w h in
    let e = preemptions_from-append p (start p) None x rest.0 in
    let same = ap (preemptions p) rest.1 in
    omega (arith, e, same)

pub runs_part : (p : Program) (s : Snapshot) (x v : List ℕ) → runs p s (x ++ v) ≡ true →
    runs p s x ≡ true
runs_part p s [] v h = refl
runs_part p s (t ∷ x) v h =
    let both = and_parts (is_enabled p s t) (runs p (step p s t) (x ++ v)) h in
    and_from (is_enabled p s t) (runs p (step p s t) x) both.0
    (runs_part p (step p s t) x v both.1)

state_after-append : (p : Program) (s : Snapshot) (x v : List ℕ) →
    state_after p s (x ++ v) ≡ state_after p (state_after p s x) v
state_after-append p s [] v = refl
state_after-append p s (t ∷ x) v = state_after-append p (step p s t) x v

last_after-append : (last : Option ℕ) (x v : List ℕ) →
    last_after last (x ++ v) ≡ last_after (last_after last x) v
last_after-append last [] v = refl
last_after-append last (t ∷ x) v = last_after-append (Some t) x v

module _ (p : Program) (H : Hiding) where
  -- whether a schedule goes on from a prefix without a step of a hidden thread
  abbrev pub is_open : List ℕ → List ℕ → Bool
  is_open x v = is_unhidden H p (state_after p (start p) x) (last_of x) v

  abbrev pub is_open_after : List ℕ → List ℕ → Bool
  is_open_after x w = is_open x (drop (length x) w)

  open-append : (s : Snapshot) (last : Option ℕ) (x v : List ℕ) →
      is_unhidden H p s last (x ++ v)
      ≡ (is_unhidden H p s last x && is_unhidden H p (state_after p s x) (last_after last x) v)
  open-append s last [] v = refl
  open-append s last (t ∷ x) v =
      ap (λ b. not (H s last t) && b) (open-append (step p s t) (Some t) x v)
      ∙ sym (and_assoc (not (H s last t)) _ _)

  open_longer : (x z v : List ℕ) →
      is_open_after x ((x ++ z) ++ v) ≡ (is_open x z && is_open_after (x ++ z) ((x ++ z) ++ v))
  open_longer x z v =
      ap (is_open x) (ap (drop (length x)) (append_assoc x z v) ∙ drop_prefix x (z ++ v))
      ∙ (open-append (state_after p (start p) x) (last_of x) z v
      ∙ (λ j. is_open x z && is_unhidden H p (sym (state_after-append p (start p) x z) j)
      (sym (last_after-append None x z) j) (sym (drop_prefix (x ++ z) v) j)))

  -- of the schedules that go on so from a prefix those that begin with a longer one
  pub open_further : (x z : List ℕ) (L : List (List ℕ)) →
      filter (begins_with (x ++ z)) (filter (is_open_after x) L)
      ≡ filter (λ w. is_open x z && is_open_after (x ++ z) w) (filter (begins_with (x ++ z)) L)
  open_further x z L =
      filter_swap (begins_with (x ++ z)) (is_open_after x) L
      ∙ filter_same (is_open_after x) (λ w. is_open x z && is_open_after (x ++ z) w)
      (filter (begins_with (x ++ z)) L)
      (λ w m. alike w (begins_rest (x ++ z) w (from_filter (begins_with (x ++ z)) L w m).1))
    where
      alike : (w : List ℕ) → (v : List ℕ) × ((x ++ z) ++ v ≡ w) →
          is_open_after x w ≡ (is_open x z && is_open_after (x ++ z) w)
      alike w r = subst (λ u. is_open_after x u ≡ (is_open x z && is_open_after (x ++ z) u)) r.1
          (open_longer x z r.0)

pub unhidden_is : (i : ItemView) → IsItem i →
    unhidden_schedules i
    ≡ filter (is_open_after i.program (is_hidden i.program) i.prefix)
    (schedules_under i.program i.prefix)
unfolding complete_once
unhidden_is i h =
    map_filter i.prefix (is_open i.program (is_hidden i.program) i.prefix)
    (complete_schedules i.program (state_of i))
    ∙ ap (filter (is_open_after i.program (is_hidden i.program) i.prefix))
    (sym (schedules_under_is i.program i.prefix h))

-- without a bound whose step was last makes no difference
spares_nobody : (p : Program) (s : Snapshot) (last : Option ℕ) (w : List ℕ) →
    is_unhidden (hides_equal p) p s None w ≡ is_unhidden (hides_equal p) p s last w
spares_nobody p s last [] = refl
spares_nobody p s last (t ∷ w) = refl

unhidden_kept_is : (i : ItemView) →
    unhidden_kept i
    ≡ filter (is_open_after i.program (hides_equal i.program) i.prefix) (kept_schedules i)
unfolding reduced_once
unhidden_kept_is i =
    ap (map (λ w. i.prefix ++ w))
    (λ j. filter (λ w. spares_nobody i.program (state_of i) (last_of i.prefix) w j)
    (reduced_schedules i.program (state_of i) (has i.mask)))
    ∙ map_filter i.prefix (is_open i.program (hides_equal i.program) i.prefix)
    (reduced_schedules i.program (state_of i) (has i.mask))

-- the child of a thread that neither sleeps nor is hidden has its item's schedules that begin with
-- its prefix
pub unhidden_child : (i : ItemView) (t : ℕ) → IsItem i → IsOf i.program (state_of i) →
    is_enabled i.program (state_of i) t ≡ true → has i.mask t ≡ false →
    is_hidden_after ReducedOnce i t ≡ false →
    unhidden_kept (child_of ReducedOnce i t)
    ≡ filter (begins_with (i.prefix ++ t ∷ [])) (unhidden_kept i)
unhidden_child i t h of e z seen =
    unhidden_kept_is (child_of ReducedOnce i t)
    ∙ (ap (filter (is_open_after p H y)) (child_keeps i t h of e z)
    ∙ ((λ j. filter (λ w. (not (sym seen j) && true) && is_open_after p H y w)
    (filter (begins_with y) (kept_schedules i)))
    ∙ (sym (open_further p H i.prefix (t ∷ []) (kept_schedules i))
    ∙ ap (filter (begins_with y)) (sym (unhidden_kept_is i)))))
  where
    p : Program
    p = i.program

    H : Hiding
    H = hides_equal p

    y : List ℕ
    y = i.prefix ++ t ∷ []

nothing_in : (L : List (List ℕ)) → ((v : List ℕ) → In L v → ⊥) → L ≡ []
nothing_in [] h = refl
nothing_in (w ∷ L) h = absurd (h w (inl refl))

-- an item below another, all of whose schedules are left of the other's too, has those of them that
-- begin with its prefix
pub unhidden_below : (above below : ItemView) → IsBelow above below →
    ((v : List ℕ) → In (unhidden_schedules below) v → In (unhidden_schedules above) v) →
    unhidden_schedules below ≡ filter (begins_with below.prefix) (unhidden_schedules above)
unhidden_below above below b own = go (is_open p H x rest.0) refl
  where
    p : Program
    p = above.program

    H : Hiding
    H = is_hidden p

    x : List ℕ
    x = above.prefix

    y : List ℕ
    y = below.prefix

    rest : (z : List ℕ) × (x ++ z ≡ y)
    rest = begins_rest x y b.prefix

    item : IsItem above
    item = runs_part p (start p) x rest.0
        (ap (runs p (start p)) rest.1
        ∙ (ap (λ q. runs q (start q) y) (sym b.program) ∙ b.item))

    its : unhidden_schedules below ≡ filter (is_open_after p H y) (schedules_under p y)
    its = unhidden_is below b.item
        ∙ ap (λ q. filter (is_open_after q (is_hidden q) y) (schedules_under q y)) b.program

    theirs : filter (begins_with y) (unhidden_schedules above)
        ≡ filter (λ w. is_open p H x rest.0 && is_open_after p H y w) (schedules_under p y)
    theirs =
        ap (filter (begins_with y)) (unhidden_is above item)
        ∙ (subst (λ v. filter (begins_with v) (filter (is_open_after p H x) (schedules_under p x))
        ≡ filter (λ w. is_open p H x rest.0 && is_open_after p H v w)
        (filter (begins_with v) (schedules_under p x))) rest.1
        (open_further p H x rest.0 (schedules_under p x))
        ∙ ap (filter (λ w. is_open p H x rest.0 && is_open_after p H y w))
        (sym (schedules_under-longer p x y b.prefix)))

    go : (c : Bool) → is_open p H x rest.0 ≡ c →
        unhidden_schedules below ≡ filter (begins_with y) (unhidden_schedules above)
    go true e = its ∙ sym (theirs
        ∙ ap (λ c. filter (λ w. c && is_open_after p H y w) (schedules_under p y)) e)
    go false e = nothing_in (unhidden_schedules below) nobody ∙ sym none
      where
        none : filter (begins_with y) (unhidden_schedules above) ≡ []
        none = theirs
            ∙ (ap (λ c. filter (λ w. c && is_open_after p H y w) (schedules_under p y)) e
            ∙ filter_none (schedules_under p y))

        nobody : (v : List ℕ) → In (unhidden_schedules below) v → ⊥
        nobody v m =
            let from = from_map (λ w. y ++ w)
            (complete_once below.program (state_of below) (last_of y)) v m in
            subst (λ L. In L v) none (in_filter (begins_with y) (unhidden_schedules above) v
            (own v m) (subst (λ w. begins_with y w ≡ true) from.2 (begins_longer y from.0)))

-- beyond a bound

first_of : (L : List (List ℕ)) → 0 < length L → (w : List ℕ) × In L w
first_of [] some = absurd (omega arith)
first_of (w ∷ L) some = (w, inl refl)

-- something is left from each state
once_some : (p : Program) (s : Snapshot) (last : Option ℕ) →
    (w : List ℕ) × In (complete_once p s last) w
once_some p s last = (by.0, (from_filter (fits many) (complete_once p s last) by.0 by.1).0)
  where
    fits : ℕ → List ℕ → Bool
    fits bound w = nat_le (preemptions_from p s last w) bound

    one : (w : List ℕ) × In (complete_schedules p s) w
    one = first_of (complete_schedules p s) (all_some (work p s + 1) p s (omega arith))

    many : ℕ
    many = preemptions_from p s last one.0

    same : Represents p s (filter (fits many) (complete_once p s last))
        (filter (fits many) (complete_schedules p s))
    same = (once_represents_within p s last).within many

    by : (w : List ℕ) × In (filter (fits many) (complete_once p s last)) w
        × (end_from p s w ≡ end_from p s one.0)
    by = from_map (end_from p s) _ (end_from p s one.0)
        (contains_in _ (end_from p s one.0) ((same.ends (end_from p s one.0)).1
        (in_contains _ (end_from p s one.0) (in_map (end_from p s) _ one.0
        (in_filter (fits many) (complete_schedules p s) one.0 one.1
        (grind (arith, nat_tests)))))))

-- where the prefix is past the bound, so is what is left
pub unhidden_past : (i : ItemView) (bound : ℕ) → bound < preemptions i.program i.prefix →
    goes_beyond (BoundedOnce bound) i ≡ true
unhidden_past i bound past =
    let one = once_some i.program (state_of i) (last_of i.prefix) in
    let e = preemptions_from-append i.program (start i.program) None i.prefix one.0 in
    in_any (λ w. nat_lt bound (preemptions i.program w)) (unhidden_schedules i)
    (i.prefix ++ one.0)
    (in_map (λ w. i.prefix ++ w) (complete_once i.program (state_of i) (last_of i.prefix)) one.0
    one.1) (grind (arith, nat_tests, e, past))

-- what is left goes beyond a bound where all schedules that begin with the prefix do
pub unhidden_beyond : (i : ItemView) (bound : ℕ) → IsItem i →
    goes_beyond (BoundedOnce bound) i ≡ goes_beyond (Bounded bound) i
unfolding exceeds_bound
unhidden_beyond i bound h = elim (cases_lt bound own) [
  | inl past ↦ unhidden_past i bound past ∙ sym (exceeds_bound-past p i.prefix bound h past)
  | inr fits ↦
      after fits (complete_once p s last)
      ∙ ((once_represents_within p s last).exceeds (bound - own)
      ∙ (sym (after fits (complete_schedules p s))
      ∙ ap (list_any (λ w. nat_lt bound (preemptions p w)))
      (sym (schedules_under_is p i.prefix h))))
]
  where
    p : Program
    p = i.program

    s : Snapshot
    s = state_of i

    last : Option ℕ
    last = last_of i.prefix

    own : ℕ
    own = preemptions p i.prefix

    less : own ≤ bound → (n : ℕ) → nat_lt bound (own + n) ≡ nat_lt (bound - own) n
    less fits n = elim (cases_lt bound (own + n)) [
      | inl a ↦ (let x : nat_lt bound (own + n) ≡ true = grind (arith, nat_tests, a) in
          let y : nat_lt (bound - own) n ≡ true = grind (arith, nat_tests, a, fits) in x ∙ sym y)
      | inr b ↦ (let x : nat_lt bound (own + n) ≡ false = grind (arith, nat_tests, b) in
          let y : nat_lt (bound - own) n ≡ false = grind (arith, nat_tests, b, fits) in x ∙ sym y)
    ]

    after : own ≤ bound → (L : List (List ℕ)) →
        list_any (λ w. nat_lt bound (preemptions p w)) (map (λ w. i.prefix ++ w) L)
        ≡ list_any (λ w. nat_lt (bound - own) (preemptions_from p s last w)) L
    after fits L =
        list_any-map (λ w. nat_lt bound (preemptions p w)) (λ w. i.prefix ++ w) L
        ∙ (λ j. list_any (λ w.
        (ap (nat_lt bound) (preemptions_from-append p (start p) None i.prefix w)
        ∙ less fits (preemptions_from p s last w)) j) L)
