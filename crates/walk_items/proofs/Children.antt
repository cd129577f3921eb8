-- An item and its children: together they have the item's schedules, in order, and no schedule
-- begins with two of them.
use Rattle.std.proofs.Common.{◌≡◌, ◌⊎◌, inl, inr, ℕ, zero, suc, ◌+◌, ◌<◌, ◌≤◌, Bool, true, false}
use Rattle.std.proofs.Common.{cond, not, ◌&&◌, ◌||◌, nat_eq, nat_le, nat_lt, List, [], ◌∷◌, ◌++◌}
use Rattle.std.proofs.Common.{length, map, refl, ap, ◌∙◌, sym, subst, arith, IsPermutation}
use Rattle.std.specs.List.{All, filter, flat_map, list_any}
use Rattle.std.proofs.lemmas.Bool.{and_parts, cases_lt, cases_order, Decides.nat_tests}
use Rattle.std.proofs.lemmas.List.{append-nil, map-append, Elements.{All-nil, All-cons, All-append}}
use Rattle.std.proofs.lemmas.List.Folds.{flat_map-map}
use Rattle.std.proofs.lemmas.List.Sorted.{IsPermutation-refl, IsPermutation-filter_both}
use Rattle.semantics.specs.Ends.{enabled, is_terminal, is_empty}
use Rattle.semantics.specs.{Machine.{Snapshot, start, is_enabled}, Mask.{has, one_if}}
use Rattle.semantics.specs.{Reachable.IsOf, Waiters.In, Work.{up_from, total_by}}
use Rattle.semantics.proofs.ListMembers.{contains_in, in_contains, from_filter, from_map}
use Rattle.semantics.proofs.ListMembers.{from_flat_map}
use Rattle.semantics_schedules.specs.EqualThreads.{complete_once, reduced_once}
use Rattle.semantics_schedules.specs.Schedules.{preempts, preemptions, last_of, begins_with, schedules_under, schedules_within, exceeds_bound}
use Rattle.semantics_schedules.specs.Sleep.{reduced_schedules}
use Rattle.semantics_schedules.proofs.ReducedSchedules.{in_any, from_enabled}
use Rattle.semantics_schedules.proofs.SchedulesUnderPrefix.{begins_longer, in_under, in_within}
use Rattle.semantics_schedules.proofs.UnfoldingUnderPrefix.{runs-push, preemptions-push, filter-flat_map, schedules_under-more, exceeds_bound-past}
use Rattle.walk_items.specs.Children.{state_of, next_steps, is_hidden_after, is_kept_step}
use Rattle.walk_items.specs.Children.{is_past_step, kept_steps, past_steps, steps_of, passes_bound}
use Rattle.walk_items.specs.Children.{child_of, children_of, children, past_children}
use Rattle.walk_items.specs.Items.{ItemView, IsItem, schedules_of, everything, goes_beyond, covers}
use Rattle.walk_items.specs.Items.{is_under, unhidden_schedules}
use Rattle.walk_items.specs.{Once.up_to, Walks.{IsBelow, IsDeferred}, declared.mode.Mode.Mode}
use Rattle.walk_items.specs.declared.mode.Mode.TheVariants.{Bounded, Reduced, BoundedOnce, ReducedOnce}
use Rattle.walk_items.proofs.Covers.{at_most_one, covers-append}
use Rattle.walk_items.proofs.Filters.{filter_none, filter_same, filter_twice, list_any-map}
use Rattle.walk_items.proofs.{Filters.list_any-flat_map, Permutations.flat_map-permutation}
use Rattle.walk_items.proofs.Reduced.{children_keep, child_keeps, filter_swap}
use Rattle.walk_items.proofs.Unhidden.{bounded_once_more, pruned_once_more, preemptions_more}
use Rattle.walk_items.proofs.Unhidden.{unhidden_child, unhidden_past}

-- each next step is one of an enabled thread

step_enabled : (i : ItemView) (t : ℕ) → In (next_steps i) t →
    is_enabled i.program (state_of i) t ≡ true
step_enabled i t m = from_enabled i.program (state_of i) t m

-- what holds of each child by a step that passes a test
module _ (mode : Mode) (i : ItemView) (P : ItemView → Type 0) where
  each_child : (steps : List ℕ) → ((t : ℕ) → In steps t → P (child_of mode i t)) →
      All P (children_of mode i steps)
  each_child [] h = All-nil P
  each_child (t ∷ ts) h =
      All-cons P (child_of mode i t) (children_of mode i ts) (h t (inl refl))
      (each_child ts (λ u m. h u (inr m)))

  each_chosen : (test : ℕ → Bool) →
      ((t : ℕ) → is_enabled i.program (state_of i) t ≡ true → test t ≡ true →
      P (child_of mode i t)) →
      All P (children_of mode i (filter test (next_steps i)))
  each_chosen test h = each_child (filter test (next_steps i)) (λ t m.
      let both = from_filter test (next_steps i) t m in h t (step_enabled i t both.0) both.1)

pub child_runs : (mode : Mode) (i : ItemView) (t : ℕ) → IsItem i →
    is_enabled i.program (state_of i) t ≡ true → IsItem (child_of mode i t)
child_runs mode i t h e = runs-push i.program (start i.program) i.prefix t h e

pub child_below : (mode : Mode) (i : ItemView) (t : ℕ) → IsItem i →
    is_enabled i.program (state_of i) t ≡ true → IsBelow i (child_of mode i t)
child_below mode i t h e = record {
  program = refl;
  item = child_runs mode i t h e;
  prefix = begins_longer i.prefix (t ∷ []);
}

pub children_below : (mode : Mode) (i : ItemView) → IsItem i →
    All (IsBelow i) (children mode i ++ past_children mode i)
children_below mode i h =
    All-append (IsBelow i) (children mode i) (past_children mode i)
    (each_chosen mode i (IsBelow i) (is_kept_step mode i) (λ t e k. child_below mode i t h e))
    (each_chosen mode i (IsBelow i) (is_past_step mode i) (λ t e k. child_below mode i t h e))

-- a step is kept or passes the bound, or is of a hidden thread; without a bound none passes it

past_or_kept : (bound : ℕ) (i : ItemView) (t : ℕ) →
    ((is_kept_step (Bounded bound) i t ≡ true) × (is_past_step (Bounded bound) i t ≡ false))
    ⊎ ((is_kept_step (Bounded bound) i t ≡ false) × (is_past_step (Bounded bound) i t ≡ true))
past_or_kept bound i t = tests (preemptions i.program (i.prefix ++ t ∷ []))
  where
    tests : (n : ℕ) → ((nat_le n bound ≡ true) × (nat_lt bound n ≡ false))
        ⊎ ((nat_le n bound ≡ false) × (nat_lt bound n ≡ true))
    tests n = elim (cases_lt bound n) [
      | inl l ↦ inr (grind (arith, nat_tests, l), grind (arith, nat_tests, l))
      | inr g ↦ inl (grind (arith, nat_tests, g), grind (arith, nat_tests, g))
    ]

pub past_is : (bound : ℕ) (i : ItemView) (t : ℕ) →
    is_past_step (Bounded bound) i t ≡ not (is_kept_step (Bounded bound) i t)
past_is bound i t = elim (past_or_kept bound i t) [
  | inl a ↦ a.1 ∙ ap not (sym a.0)
  | inr b ↦ b.1 ∙ ap not (sym b.0)
]

bounded_not_kept : (bound : ℕ) (i : ItemView) (t : ℕ) → is_past_step (Bounded bound) i t ≡ true →
    is_kept_step (Bounded bound) i t ≡ false
bounded_not_kept bound i t h = elim (past_or_kept bound i t) [
  | inl a ↦ (let e : is_past_step (Bounded bound) i t ≡ false = a.1 in cc)
  | inr b ↦ b.0
]

-- that a step is kept, or past the bound, is so without equal threads once too
kept_plainly : (once : Bool) (bound : ℕ) (i : ItemView) (t : ℕ) →
    is_kept_step (up_to once bound) i t ≡ true → is_kept_step (Bounded bound) i t ≡ true
kept_plainly false bound i t h = h
kept_plainly true bound i t h = (and_parts (is_kept_step (Bounded bound) i t) _ h).0

past_plainly : (once : Bool) (bound : ℕ) (i : ItemView) (t : ℕ) →
    is_past_step (up_to once bound) i t ≡ true → is_past_step (Bounded bound) i t ≡ true
past_plainly false bound i t h = h
past_plainly true bound i t h = (and_parts (is_past_step (Bounded bound) i t) _ h).0

past_not_kept : (mode : Mode) (i : ItemView) (t : ℕ) → is_past_step mode i t ≡ true →
    is_kept_step mode i t ≡ false
past_not_kept (Bounded bound) i t h = bounded_not_kept bound i t h
past_not_kept Reduced i t h = cc
past_not_kept (BoundedOnce bound) i t h =
    ap (λ b. b && not (is_hidden_after (BoundedOnce bound) i t))
    (bounded_not_kept bound i t (past_plainly true bound i t h))
past_not_kept ReducedOnce i t h = cc

pub reduced_past : (i : ItemView) → past_steps Reduced i ≡ []
reduced_past i = filter_none (next_steps i)

pub once_past : (i : ItemView) → past_steps ReducedOnce i ≡ []
once_past i = filter_none (next_steps i)

-- a step past the bound: nothing after it is within
past_preemptions : (once : Bool) (bound : ℕ) (i : ItemView) (t : ℕ) →
    is_past_step (up_to once bound) i t ≡ true →
    bound < preemptions i.program (i.prefix ++ t ∷ [])
past_preemptions once bound i t h =
    tests (preemptions i.program (i.prefix ++ t ∷ [])) (past_plainly once bound i t h)
  where
    tests : (n : ℕ) → nat_lt bound n ≡ true → bound < n
    tests n k = grind (arith, nat_tests, k)

kept_preemptions : (once : Bool) (bound : ℕ) (i : ItemView) (t : ℕ) →
    is_kept_step (up_to once bound) i t ≡ true →
    preemptions i.program (i.prefix ++ t ∷ []) ≤ bound
kept_preemptions once bound i t h =
    tests (preemptions i.program (i.prefix ++ t ∷ [])) (kept_plainly once bound i t h)
  where
    tests : (n : ℕ) → nat_le n bound ≡ true → n ≤ bound
    tests n k = grind (arith, nat_tests, k)

-- the steps that are kept, and those that pass the bound, of those by which the item goes on
kept_of : (once : Bool) (bound : ℕ) (i : ItemView) →
    kept_steps (up_to once bound) i
    ≡ filter (is_kept_step (Bounded bound) i) (steps_of (up_to once bound) i)
kept_of false bound i = refl
kept_of true bound i =
    sym (filter_twice (λ t. not (is_hidden_after (BoundedOnce bound) i t))
    (is_kept_step (Bounded bound) i) (next_steps i))
    ∙ filter_swap (λ t. not (is_hidden_after (BoundedOnce bound) i t))
    (is_kept_step (Bounded bound) i) (next_steps i)

past_of : (once : Bool) (bound : ℕ) (i : ItemView) →
    past_steps (up_to once bound) i
    ≡ filter (is_past_step (Bounded bound) i) (steps_of (up_to once bound) i)
past_of false bound i = refl
past_of true bound i =
    sym (filter_twice (λ t. not (is_hidden_after (BoundedOnce bound) i t))
    (is_past_step (Bounded bound) i) (next_steps i))
    ∙ filter_swap (λ t. not (is_hidden_after (BoundedOnce bound) i t))
    (is_past_step (Bounded bound) i) (next_steps i)

bounded_steps : (once : Bool) (bound : ℕ) (i : ItemView) (t : ℕ) →
    In (steps_of (up_to once bound) i) t → In (next_steps i) t
bounded_steps false bound i t m = m
bounded_steps true bound i t m =
    (from_filter (λ u. not (is_hidden_after (BoundedOnce bound) i u)) (next_steps i) t m).0

-- each schedule of an item begins with its prefix

begins_after : (i : ItemView) (L : List (List ℕ)) (v : List ℕ) →
    In (map (λ w. i.prefix ++ w) L) v → begins_with i.prefix v ≡ true
begins_after i L v m =
    let r = from_map (λ w. i.prefix ++ w) L v m in
    subst (λ w. begins_with i.prefix w ≡ true) r.2 (begins_longer i.prefix r.0)

pub begins_all : (mode : Mode) (i : ItemView) (v : List ℕ) → In (everything mode i) v →
    begins_with i.prefix v ≡ true
begins_all (Bounded bound) i v m = ((in_under i.program i.prefix v).1 (in_contains _ v m)).1
begins_all Reduced i v m =
    begins_after i (reduced_schedules i.program (state_of i) (has i.mask)) v m
begins_all (BoundedOnce bound) i v m =
    begins_after i (complete_once i.program (state_of i) (last_of i.prefix)) v m
begins_all ReducedOnce i v m =
    begins_after i (reduced_once i.program (state_of i) (has i.mask)) v m

pub begins_own : (mode : Mode) (i : ItemView) (v : List ℕ) → In (schedules_of mode i) v →
    begins_with i.prefix v ≡ true
begins_own (Bounded bound) i v m =
    let c = (in_within i.program i.prefix bound v).1 (in_contains _ v m) in
    begins_all (Bounded bound) i v (contains_in (schedules_under i.program i.prefix) v c.0)
begins_own Reduced i v m = begins_all Reduced i v m
begins_own (BoundedOnce bound) i v m =
    begins_all (BoundedOnce bound) i v
    (from_filter (λ w. nat_le (preemptions i.program w) bound) (unhidden_schedules i) v m).0
begins_own ReducedOnce i v m = begins_all ReducedOnce i v m

under_each : (f : ItemView → List (List ℕ)) →
    ((i : ItemView) (v : List ℕ) → In (f i) v → begins_with i.prefix v ≡ true) →
    (items : List ItemView) (v : List ℕ) → In (flat_map f items) v → is_under items v ≡ true
under_each f own items v m =
    let r = from_flat_map f items v m in
    in_any (λ i. begins_with i.prefix v) items r.0 r.1 (own r.0 v r.2)

pub under_all : (mode : Mode) (items : List ItemView) (v : List ℕ) →
    In (flat_map (everything mode) items) v → is_under items v ≡ true
under_all mode = under_each (everything mode) (begins_all mode)

pub under_own : (mode : Mode) (items : List ItemView) (v : List ℕ) →
    In (flat_map (schedules_of mode) items) v → is_under items v ≡ true
under_own mode = under_each (schedules_of mode) (begins_own mode)

-- at a bound an item has those of all its schedules that are within it, and goes beyond it where
-- one of them isn't

pub own_is : (once : Bool) (bound : ℕ) (i : ItemView) →
    schedules_of (up_to once bound) i
    ≡ filter (λ w. nat_le (preemptions i.program w) bound) (everything (up_to once bound) i)
unfolding schedules_within
own_is false bound i = refl
own_is true bound i = refl

pub beyond_is : (once : Bool) (bound : ℕ) (i : ItemView) →
    goes_beyond (up_to once bound) i
    ≡ list_any (λ w. nat_lt bound (preemptions i.program w)) (everything (up_to once bound) i)
unfolding exceeds_bound
beyond_is false bound i = refl
beyond_is true bound i = refl

-- an item whose own prefix is past the bound
pub bounded_none : (once : Bool) (bound : ℕ) (i : ItemView) →
    bound < preemptions i.program i.prefix → schedules_of (up_to once bound) i ≡ []
bounded_none once bound i past =
    own_is once bound i
    ∙ (filter_same (λ w. nat_le (preemptions i.program w) bound) (λ w. false)
    (everything (up_to once bound) i)
    (λ v m. high (preemptions i.program v) (preemptions_more i.program i.prefix v
    (begins_all (up_to once bound) i v m)))
    ∙ filter_none (everything (up_to once bound) i))
  where
    high : (n : ℕ) → preemptions i.program i.prefix ≤ n → nat_le n bound ≡ false
    high n more = grind (arith, nat_tests, more, past)

pub bounded_beyond : (once : Bool) (bound : ℕ) (i : ItemView) → IsItem i →
    bound < preemptions i.program i.prefix → goes_beyond (up_to once bound) i ≡ true
bounded_beyond false bound i h past = exceeds_bound-past i.program i.prefix bound h past
bounded_beyond true bound i h past = unhidden_past i bound past

-- all schedules of an item that goes on are those of the items one step further

bounded_more : (once : Bool) (bound : ℕ) (i : ItemView) → IsItem i →
    is_terminal i.program (state_of i) ≡ false →
    everything (up_to once bound) i
    ≡ flat_map (λ t. everything (up_to once bound) (child_of (up_to once bound) i t))
    (steps_of (up_to once bound) i)
bounded_more false bound i h more = schedules_under-more i.program i.prefix h more
bounded_more true bound i h more =
    bounded_once_more i more bound
    ∙ flat_map-map (everything (BoundedOnce bound)) (child_of (BoundedOnce bound) i)
    (steps_of (BoundedOnce bound) i)

-- the schedules of an item that goes on are those of its children, one child after another

flat_map_chosen : (test : ℕ → Bool) (f : ℕ → List (List ℕ)) (ts : List ℕ) →
    ((t : ℕ) → In ts t → test t ≡ false → f t ≡ []) → flat_map f ts ≡ flat_map f (filter test ts)
flat_map_chosen test f [] h = refl
flat_map_chosen test f (t ∷ ts) h =
    go (test t) refl (flat_map_chosen test f ts (λ u m. h u (inr m)))
  where
    go : (b : Bool) → test t ≡ b → flat_map f ts ≡ flat_map f (filter test ts) →
        f t ++ flat_map f ts ≡ flat_map f (cond b (t ∷ filter test ts) (filter test ts))
    go true e rest = ap (λ L. f t ++ L) rest
    go false e rest = ap (λ L. L ++ flat_map f ts) (h t (inl refl) e) ∙ rest

module _ (once : Bool) (bound : ℕ) (i : ItemView) (h : IsItem i)
    (more : is_terminal i.program (state_of i) ≡ false) where
  abbrev here : Mode
  here = up_to once bound

  abbrev steps : List ℕ
  steps = steps_of here i

  abbrev fits : ℕ → Bool
  fits = is_kept_step (Bounded bound) i

  abbrev passes : ℕ → Bool
  passes = is_past_step (Bounded bound) i

  abbrev low : List ℕ → Bool
  low w = nat_le (preemptions i.program w) bound

  abbrev high : List ℕ → Bool
  high w = nat_lt bound (preemptions i.program w)

  abbrev all : ℕ → List (List ℕ)
  all t = everything here (child_of here i t)

  abbrev own : ℕ → List (List ℕ)
  own t = schedules_of here (child_of here i t)

  bounded_schedules : schedules_of here i ≡ flat_map (schedules_of here) (children here i)
  bounded_schedules =
      own_is once bound i
      ∙ (ap (filter low) (bounded_more once bound i h more)
      ∙ (filter-flat_map low all steps
      ∙ ((λ j. flat_map (λ t. sym (own_is once bound (child_of here i t)) j) steps)
      ∙ (flat_map_chosen fits own steps none
      ∙ (ap (flat_map own) (sym (kept_of once bound i))
      ∙ sym (flat_map-map (schedules_of here) (child_of here i) (kept_steps here i)))))))
    where
      none : (t : ℕ) → In steps t → fits t ≡ false → own t ≡ []
      none t m e = elim (past_or_kept bound i t) [
        | inl a ↦ (let f : fits t ≡ true = a.0 in cc)
        | inr b ↦ bounded_none once bound (child_of here i t) (past_preemptions false bound i t b.1)
      ]

  -- all of them are those of its children and of what is put off
  bounded_all : IsPermutation (everything here i)
      (flat_map (everything here) (children here i ++ past_children here i))
  bounded_all =
      subst (λ L. IsPermutation L (flat_map (everything here) (children here i
      ++ past_children here i))) (sym (bounded_more once bound i h more))
      (subst (IsPermutation (flat_map all steps))
      ((λ j. flat_map all (sym (kept_of once bound i) j ++ sym (past_of once bound i) j))
      ∙ (sym (flat_map-map (everything here) (child_of here i)
      (kept_steps here i ++ past_steps here i))
      ∙ ap (flat_map (everything here))
      (map-append (child_of here i) (kept_steps here i) (past_steps here i))))
      (flat_map-permutation all _ _ (IsPermutation-filter_both fits passes (past_is bound i)
      steps)))

pub children_schedules : (mode : Mode) (i : ItemView) → IsItem i → IsOf i.program (state_of i) →
    is_terminal i.program (state_of i) ≡ false →
    schedules_of mode i ≡ flat_map (schedules_of mode) (children mode i)
children_schedules (Bounded bound) i h of more = bounded_schedules false bound i h more
children_schedules Reduced i h of more =
    children_keep i of more
    ∙ sym (flat_map-map (schedules_of Reduced) (child_of Reduced i) (kept_steps Reduced i))
children_schedules (BoundedOnce bound) i h of more = bounded_schedules true bound i h more
children_schedules ReducedOnce i h of more = pruned_once_more i more of

-- all that begins with an item's prefix is what begins with those of its children and of what is
-- put off

pruned_all : (mode : Mode) (i : ItemView) → past_steps mode i ≡ [] →
    everything mode i ≡ flat_map (everything mode) (children mode i) →
    IsPermutation (everything mode i)
    (flat_map (everything mode) (children mode i ++ past_children mode i))
pruned_all mode i none more =
    subst (IsPermutation (everything mode i))
    (more
    ∙ ap (flat_map (everything mode))
    (sym (ap (λ ts. children mode i ++ children_of mode i ts) none
    ∙ append-nil (children mode i))))
    (IsPermutation-refl (everything mode i))

pub children_all : (mode : Mode) (i : ItemView) → IsItem i → IsOf i.program (state_of i) →
    is_terminal i.program (state_of i) ≡ false →
    IsPermutation (everything mode i)
    (flat_map (everything mode) (children mode i ++ past_children mode i))
children_all (Bounded bound) i h of more = bounded_all false bound i h more
children_all Reduced i h of more =
    pruned_all Reduced i (reduced_past i) (children_schedules Reduced i h of more)
children_all (BoundedOnce bound) i h of more = bounded_all true bound i h more
children_all ReducedOnce i h of more =
    pruned_all ReducedOnce i (once_past i) (children_schedules ReducedOnce i h of more)

-- whether the item goes past the bound

any_divided : (test kept past : ℕ → Bool) (ts : List ℕ) →
    ((t : ℕ) → In ts t → ((kept t ≡ true) × (past t ≡ false))
    ⊎ ((past t ≡ true) × (test t ≡ true))) →
    list_any test ts ≡ (not (is_empty (filter past ts)) || list_any test (filter kept ts))
any_divided test kept past [] h = refl
any_divided test kept past (t ∷ ts) h =
    go (h t (inl refl)) (any_divided test kept past ts (λ u m. h u (inr m)))
  where
    some : Bool
    some = not (is_empty (filter past ts))

    left : Bool
    left = list_any test (filter kept ts)

    shuffle : (a b c : Bool) → (a || (b || c)) ≡ (b || (a || c))
    shuffle true true c = refl
    shuffle true false c = refl
    shuffle false b c = refl

    go : ((kept t ≡ true) × (past t ≡ false)) ⊎ ((past t ≡ true) × (test t ≡ true)) →
        list_any test ts ≡ (some || left) →
        (test t || list_any test ts)
        ≡ (not (is_empty (cond (past t) (t ∷ filter past ts) (filter past ts)))
        || list_any test (cond (kept t) (t ∷ filter kept ts) (filter kept ts)))
    go (inl a) rest = ap (λ b. test t || b) rest
        ∙ (shuffle (test t) some left
        ∙ (λ j. not (is_empty (cond (sym a.1 j) (t ∷ filter past ts) (filter past ts)))
        || list_any test (cond (sym a.0 j) (t ∷ filter kept ts) (filter kept ts))))
    go (inr b) rest = ap (λ c. c || list_any test ts) b.1
        ∙ (λ j. not (is_empty (cond (sym b.0 j) (t ∷ filter past ts) (filter past ts)))
        || list_any test (cond (kept t) (t ∷ filter kept ts) (filter kept ts)))

bounded_children_beyond : (once : Bool) (bound : ℕ) (i : ItemView) → IsItem i →
    is_terminal i.program (state_of i) ≡ false →
    goes_beyond (up_to once bound) i
    ≡ (passes_bound (up_to once bound) i
    || list_any (goes_beyond (up_to once bound)) (children (up_to once bound) i))
bounded_children_beyond once bound i h more =
    beyond_is once bound i
    ∙ (ap (list_any over) (bounded_more once bound i h more)
    ∙ (list_any-flat_map over (λ t. everything mode (child_of mode i t)) steps
    ∙ ((λ j. list_any (λ t. sym (beyond_is once bound (child_of mode i t)) j) steps)
    ∙ (any_divided exceeds (is_kept_step (Bounded bound) i) (is_past_step (Bounded bound) i) steps
    each
    ∙ ((λ j. not (is_empty (sym (past_of once bound i) j))
    || list_any exceeds (sym (kept_of once bound i) j))
    ∙ ap (λ b. passes_bound mode i || b)
    (sym (list_any-map (goes_beyond mode) (child_of mode i) (kept_steps mode i))))))))
  where
    mode : Mode
    mode = up_to once bound

    steps : List ℕ
    steps = steps_of mode i

    over : List ℕ → Bool
    over w = nat_lt bound (preemptions i.program w)

    exceeds : ℕ → Bool
    exceeds t = goes_beyond mode (child_of mode i t)

    each : (t : ℕ) → In steps t →
        ((is_kept_step (Bounded bound) i t ≡ true) × (is_past_step (Bounded bound) i t ≡ false))
        ⊎ ((is_past_step (Bounded bound) i t ≡ true) × (exceeds t ≡ true))
    each t m = elim (past_or_kept bound i t) [
      | inl a ↦ inl a
      | inr b ↦ inr (
        b.1,
        bounded_beyond once bound (child_of mode i t)
            (child_runs mode i t h (step_enabled i t (bounded_steps once bound i t m)))
            (past_preemptions false bound i t b.1),
      )
    ]

any_false : {A : Type 0} (xs : List A) → list_any (λ x. false) xs ≡ false
any_false [] = refl
any_false (x ∷ xs) = any_false xs

pub children_beyond : (mode : Mode) (i : ItemView) → IsItem i →
    is_terminal i.program (state_of i) ≡ false →
    goes_beyond mode i ≡ (passes_bound mode i || list_any (goes_beyond mode) (children mode i))
children_beyond (Bounded bound) i h more = bounded_children_beyond false bound i h more
children_beyond Reduced i h more =
    sym ((λ j. not (is_empty (reduced_past i j)) || any_false (children Reduced i) j))
children_beyond (BoundedOnce bound) i h more = bounded_children_beyond true bound i h more
children_beyond ReducedOnce i h more =
    sym ((λ j. not (is_empty (once_past i j)) || any_false (children ReducedOnce i) j))

-- no schedule begins with two of the steps after a prefix

-- with how many it begins
abbrev begun : List ℕ → List ℕ → List ℕ → ℕ
begun x v ts = total_by (λ t. one_if (begins_with (x ++ t ∷ []) v)) ts

covers_begun : (mode : Mode) (i : ItemView) (v ts : List ℕ) →
    covers v (children_of mode i ts) ≡ begun i.prefix v ts
covers_begun mode i v [] = refl
covers_begun mode i v (t ∷ ts) =
    ap (λ n. one_if (begins_with (i.prefix ++ t ∷ []) v) + n) (covers_begun mode i v ts)

-- sums over parts of a list

total_none : (ts : List ℕ) → total_by (λ t. 0) ts ≡ 0
total_none [] = refl
total_none (t ∷ ts) = let e = total_none ts in omega (arith, e)

total_chosen : (f : ℕ → ℕ) (test : ℕ → Bool) (ts : List ℕ) →
    total_by f (filter test ts) ≤ total_by f ts
total_chosen f test [] = omega arith
total_chosen f test (t ∷ ts) = go (test t) (total_chosen f test ts)
  where
    go : (b : Bool) → total_by f (filter test ts) ≤ total_by f ts →
        total_by f (cond b (t ∷ filter test ts) (filter test ts)) ≤ f t + total_by f ts
    go true h = omega (arith, h)
    go false h = omega (arith, h)

total_divided : (f : ℕ → ℕ) (kept past : ℕ → Bool) (ts : List ℕ) →
    ((t : ℕ) → past t ≡ true → kept t ≡ false) →
    total_by f (filter kept ts) + total_by f (filter past ts) ≤ total_by f ts
total_divided f kept past [] h = omega arith
total_divided f kept past (t ∷ ts) h =
    go (kept t) (past t) refl refl (total_divided f kept past ts h)
  where
    K : List ℕ
    K = filter kept ts

    P : List ℕ
    P = filter past ts

    go : (a b : Bool) → kept t ≡ a → past t ≡ b →
        total_by f K + total_by f P ≤ total_by f ts →
        total_by f (cond a (t ∷ K) K) + total_by f (cond b (t ∷ P) P) ≤ f t + total_by f ts
    go true true d e r = (let k : kept t ≡ false = h t e in absurd (cc))
    go true false d e r = omega (arith, r)
    go false true d e r = omega (arith, r)
    go false false d e r = omega (arith, r)

-- of the numbers from a first one on, a schedule begins with one at most

begun_later : (u : ℕ) (w : List ℕ) (first n : ℕ) → u < first →
    begun [] (u ∷ w) (up_from first n) ≡ 0
begun_later u w first zero h = refl
begun_later u w first (suc n) h =
    let rest : begun [] (u ∷ w) (up_from (suc first) n) ≡ 0 =
    begun_later u w (suc first) n (omega arith) in
    let e : nat_eq first u ≡ false = grind (arith, nat_tests, h) in
    subst (λ b. one_if (b && true) + begun [] (u ∷ w) (up_from (suc first) n) ≡ 0) (sym e)
    (omega (arith, rest))

begun_here : (u : ℕ) (w : List ℕ) (first n : ℕ) → begun [] (u ∷ w) (up_from first n) ≤ 1
begun_here u w first zero = omega arith
begun_here u w first (suc n) = go (cases_order first u) (begun_here u w (suc first) n)
  where
    rest : ℕ
    rest = begun [] (u ∷ w) (up_from (suc first) n)

    go : (first ≡ u) ⊎ ((first < u) ⊎ (u < first)) → rest ≤ 1 →
        one_if (nat_eq first u && true) + rest ≤ 1
    go (inl e) r =
        let z : rest ≡ 0 = begun_later u w (suc first) n (omega (arith, e)) in
        let few = at_most_one (nat_eq first u && true) in
        omega (arith, z, few)
    go (inr (inl l)) r =
        let e : nat_eq first u ≡ false = grind (arith, nat_tests, l) in
        subst (λ b. one_if (b && true) + rest ≤ 1) (sym e) (omega (arith, r))
    go (inr (inr l)) r =
        let e : nat_eq first u ≡ false = grind (arith, nat_tests, l) in
        subst (λ b. one_if (b && true) + rest ≤ 1) (sym e) (omega (arith, r))

begun_once : (x v : List ℕ) (first n : ℕ) →
    begun x v (up_from first n) ≤ one_if (begins_with x v)
begun_once [] [] first n = let e = total_none (up_from first n) in omega (arith, e)
begun_once [] (u ∷ w) first n = begun_here u w first n
begun_once (y ∷ x) [] first n = let e = total_none (up_from first n) in omega (arith, e)
begun_once (y ∷ x) (u ∷ w) first n = go (nat_eq y u) (begun_once x w first n)
  where
    go : (b : Bool) → begun x w (up_from first n) ≤ one_if (begins_with x w) →
        total_by (λ t. one_if (b && begins_with (x ++ t ∷ []) w)) (up_from first n)
        ≤ one_if (b && begins_with x w)
    go true r = r
    go false r = let e = total_none (up_from first n) in omega (arith, e)

pub children_apart : (mode : Mode) (i : ItemView) (v : List ℕ) →
    covers v (children mode i ++ past_children mode i) ≤ one_if (begins_with i.prefix v)
unfolding enabled
children_apart mode i v =
    let s : Snapshot = state_of i in
    let all : List ℕ = up_from 0 (length s.threads) in
    let a = covers-append v (children mode i) (past_children mode i) in
    let b = covers_begun mode i v (kept_steps mode i) in
    let c = covers_begun mode i v (past_steps mode i) in
    let d = total_divided (λ t. one_if (begins_with (i.prefix ++ t ∷ []) v)) (is_kept_step mode i)
    (is_past_step mode i) (next_steps i) (past_not_kept mode i) in
    let e = total_chosen (λ t. one_if (begins_with (i.prefix ++ t ∷ []) v))
    (is_enabled i.program s) all in
    let f = begun_once i.prefix v 0 (length s.threads) in
    omega (arith, a, b, c, d, e, f)

-- what is kept stays within the bound, what is put off is just past it

pub children_within : (once : Bool) (bound : ℕ) (i : ItemView) →
    All (λ r. preemptions r.program r.prefix ≤ bound) (children (up_to once bound) i)
children_within once bound i =
    each_chosen (up_to once bound) i (λ r. preemptions r.program r.prefix ≤ bound)
    (is_kept_step (up_to once bound) i) (λ t e k. kept_preemptions once bound i t k)

child_deferred : (once : Bool) (bound : ℕ) (i : ItemView) (t : ℕ) →
    preemptions i.program i.prefix ≤ bound → is_past_step (up_to once bound) i t ≡ true →
    IsDeferred bound (child_of (up_to once bound) i t)
child_deferred once bound i t fits e =
    let one = preemptions-push i.program i.prefix t in
    let past = past_preemptions once bound i t e in
    let few = at_most_one (preempts i.program (state_of i) (last_of i.prefix) t) in
    record {
      stem = i.prefix;
      step = t;
      prefix = refl;
      within = omega (arith, one, past, few, fits);
      past = omega (arith, one, past, few, fits);
    }

pub children_deferred : (once : Bool) (bound : ℕ) (i : ItemView) →
    preemptions i.program i.prefix ≤ bound →
    All (IsDeferred bound) (past_children (up_to once bound) i)
children_deferred once bound i fits =
    each_chosen (up_to once bound) i (IsDeferred bound) (is_past_step (up_to once bound) i)
    (λ t e k. child_deferred once bound i t fits k)

-- without a bound each child has the item's schedules that begin with its prefix

not_so : (b : Bool) → not b ≡ true → b ≡ false
not_so true k = cc
not_so false k = refl

pub children_pruned : (i : ItemView) → IsItem i → IsOf i.program (state_of i) →
    All (λ r. schedules_of Reduced r ≡ filter (begins_with r.prefix) (schedules_of Reduced i))
    (children Reduced i)
children_pruned i h of =
    each_chosen Reduced i
    (λ r. schedules_of Reduced r ≡ filter (begins_with r.prefix) (schedules_of Reduced i))
    (is_kept_step Reduced i) (λ t e k. child_keeps i t h of e (not_so (has i.mask t) k))

pub children_pruned_once : (i : ItemView) → IsItem i → IsOf i.program (state_of i) →
    All (λ r. schedules_of ReducedOnce r
    ≡ filter (begins_with r.prefix) (schedules_of ReducedOnce i)) (children ReducedOnce i)
children_pruned_once i h of =
    each_chosen ReducedOnce i
    (λ r. schedules_of ReducedOnce r
    ≡ filter (begins_with r.prefix) (schedules_of ReducedOnce i)) (is_kept_step ReducedOnce i)
    (λ t e k. let both = and_parts (not (has i.mask t)) _ k in
    unhidden_child i t h of e (not_so (has i.mask t) both.0)
    (not_so (is_hidden_after ReducedOnce i t) both.1))
