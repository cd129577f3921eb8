-- What an item's schedules are, what is known of a walk, and what follows.
use Rattle.std.proofs.Common.{◌≡◌, ◌↔◌, ◌⊎◌, inl, inr, ℕ, zero, suc, ◌+◌, ◌<◌, ◌≤◌, Bool, true}
use Rattle.std.proofs.Common.{false, not, cond, ◌||◌, nat_eq, nat_le, nat_lt, List, [], ◌∷◌, ◌++◌}
use Rattle.std.proofs.Common.{length, map, get_or, refl, ap, ◌∙◌, sym, arith, subst, length-append}
use Rattle.std.proofs.Common.{IsPermutation, Option, None}
use Rattle.std.specs.List.{filter, flat_map, list_any, All, AllPairs, Contains}
use Rattle.std.proofs.lemmas.Bool.{not-true, not_from_false, or_parts, Decides.nat_tests}
use Rattle.std.proofs.lemmas.List.{append-nil, get_or_append_left, get_or-append-add, get_or-map}
use Rattle.std.proofs.lemmas.List.{length-map, map-id}
use Rattle.std.proofs.lemmas.List.Elements.{All-nil, All-cons, All-head, All-tail, All-weaker}
use Rattle.std.proofs.lemmas.List.Elements.{All-contains, All-contains_itself, All-filter}
use Rattle.std.proofs.lemmas.List.Elements.{filter-append, filter_passes, Contains-append_cases}
use Rattle.std.proofs.lemmas.List.{Folds.list_any_none, Kept.AllPairs-filter}
use Rattle.std.proofs.lemmas.List.Sorted.{IsPermutation-refl, IsPermutation-sym}
use Rattle.std.proofs.lemmas.List.Sorted.{Contains-permutation, length_permutation}
use Rattle.guest_code.specs.Program.{Program}
use Rattle.semantics.specs.{Machine.{Snapshot, start}, Mask.{has, no_threads}, Waiters.In}
use Rattle.semantics.proofs.ListMembers.{in_contains, contains_in, in_filter, in_map, from_map}
use Rattle.semantics.proofs.ListMembers.{from_filter, in_flat_map, in_left, in_right}
use Rattle.semantics.proofs.Masks.{empty_has}
use Rattle.semantics_schedules.specs.EqualThreads.{hides_equal, is_hidden, is_unhidden, complete_once, reduced_once}
use Rattle.semantics_schedules.specs.{Order.{is_complete, precedes}, Rising.IsRising}
use Rattle.semantics_schedules.specs.Schedules.{begins_with, preemptions, complete_schedules, schedules_under, schedules_within, exceeds_bound, last_of}
use Rattle.semantics_schedules.specs.Sleep.{reduced_schedules, is_kept, none_asleep}
use Rattle.semantics_schedules.proofs.CompleteSchedulesRise.{all_rise}
use Rattle.semantics_schedules.proofs.KeptSchedules.{reduced_members, kept_complete}
use Rattle.semantics_schedules.proofs.ReducedSchedules.{any_in, in_all, schedules_cut_at}
use Rattle.semantics_schedules.proofs.SchedulesUnderPrefix.{schedules_within-longer, in_under, in_within, beyond_is}
use Rattle.semantics_schedules.proofs.StatedLaws.{complete}
use Rattle.walk_items.specs.Items.{ItemView, AreOf, IsItem, IsScheduleOf, state_of, root_of, schedules_of, goes_beyond, item_sum, item_sums, schedule_count, covers, is_under, unhidden_schedules, unhidden_kept}
use Rattle.walk_items.specs.Once.{up_to}
use Rattle.walk_items.specs.Walks.{WalkView, IsWalked, IsBelow, IsSplit, clear_of, tried_by}
use Rattle.walk_items.specs.declared.mode.Mode.{Mode, TheVariants.{Bounded, Reduced}}
use Rattle.walk_items.specs.declared.mode.Mode.TheVariants.{BoundedOnce, ReducedOnce}
use Rattle.walk_summary.specs.Summaries.{SummaryView, cut, greatest_count, nothing, sum_of, join}
use Rattle.walk_summary.specs.Summaries.{with_beyond}
pub use Rattle.walk_items.specs.Walks.{HasItsOf}
use Rattle.walk_items.proofs.Children.{begins_own, under_own, bounded_none, bounded_beyond}
use Rattle.walk_items.proofs.{Covers.at_most_one, Reduced.filter_swap}
use Rattle.walk_items.proofs.Unhidden.{preemptions_more, unhidden_below}
use Rattle.walk_items.proofs.{Filters.{filter_all, filter_whole}, ListParts.all_left}
use Rattle.walk_items.proofs.Permutations.{filter-permutation, sum_of-permutation}
use Rattle.walk_summary.proofs.SumsJoin.{sum_of-append}

-- the item of all schedules

pub root_set : (p : Program) (bound : ℕ) →
    schedules_within p [] bound
    ≡ filter (λ w. nat_le (preemptions p w) bound) (complete_schedules p (start p))
unfolding schedules_within schedules_under
root_set p bound =
    ap (filter (λ w. nat_le (preemptions p w) bound)) (filter_all (complete_schedules p (start p)))

pub root_beyond : (p : Program) (bound : ℕ) →
    exceeds_bound p [] bound
    ≡ list_any (λ w. nat_lt bound (preemptions p w)) (complete_schedules p (start p))
unfolding exceeds_bound schedules_under
root_beyond p bound =
    ap (list_any (λ w. nat_lt bound (preemptions p w)))
    (filter_all (complete_schedules p (start p)))

pub root_pruned : (p : Program) →
    schedules_of Reduced (root_of p) ≡ reduced_schedules p (start p) none_asleep
root_pruned p =
    map-id (reduced_schedules p (start p) (has no_threads))
    ∙ (λ i. reduced_schedules p (start p) (λ t. empty_has t i))

pub root_once_set : (p : Program) (bound : ℕ) →
    schedules_of (BoundedOnce bound) (root_of p)
    ≡ filter (λ w. nat_le (preemptions p w) bound) (complete_once p (start p) None)
root_once_set p bound =
    ap (filter (λ w. nat_le (preemptions p w) bound)) (map-id (complete_once p (start p) None))

pub root_once_beyond : (p : Program) (bound : ℕ) →
    goes_beyond (BoundedOnce bound) (root_of p)
    ≡ list_any (λ w. nat_lt bound (preemptions p w)) (complete_once p (start p) None)
root_once_beyond p bound =
    ap (list_any (λ w. nat_lt bound (preemptions p w))) (map-id (complete_once p (start p) None))

pub root_once_pruned : (p : Program) →
    schedules_of ReducedOnce (root_of p) ≡ reduced_once p (start p) none_asleep
root_once_pruned p =
    map-id (reduced_once p (start p) (has no_threads))
    ∙ (λ i. reduced_once p (start p) (λ t. empty_has t i))

-- each item's schedules

pub item_members : (i : ItemView) (bound : ℕ) (w : List ℕ) →
    Contains (schedules_of (Bounded bound) i) w ↔
    (IsScheduleOf i w × (preemptions i.program w ≤ bound))
item_members i bound w =
    let under = in_under i.program i.prefix w in
    let within = in_within i.program i.prefix bound w in
    (λ c. let r = within.1 c in (under.1 r.0, r.1), λ h. within.0 (under.0 h.0, h.1))

pub item_kept : (i : ItemView) (w : List ℕ) →
    Contains (schedules_of Reduced i) w ↔
    ((v : List ℕ) × (w ≡ i.prefix ++ v) × (is_kept i.program (state_of i) (has i.mask) v ≡ true))
item_kept i w = (there, back)
  where
    left : List (List ℕ)
    left = reduced_schedules i.program (state_of i) (has i.mask)

    there : Contains (schedules_of Reduced i) w →
        (v : List ℕ) × (w ≡ i.prefix ++ v) × (is_kept i.program (state_of i) (has i.mask) v ≡ true)
    there c =
        let from =
        from_map (λ v. i.prefix ++ v) left w (contains_in (schedules_of Reduced i) w c) in (
          from.0,
          sym from.2,
          ((reduced_members i.program (state_of i) (has i.mask) from.0).0
              (in_contains left from.0 from.1)).1,
        )

    back : (v : List ℕ) × (w ≡ i.prefix ++ v) × (is_kept i.program (state_of i) (has i.mask)
        v ≡ true) →
        Contains (schedules_of Reduced i) w
    back h =
        let whole = kept_complete i.program (state_of i) (has i.mask) h.0 h.2 in
        let member = (reduced_members i.program (state_of i) (has i.mask) h.0).1
        ((complete i.program (state_of i) h.0).0 whole, h.2) in
        in_contains (schedules_of Reduced i) w
        (subst (In (schedules_of Reduced i)) (sym h.1)
        (in_map (λ v. i.prefix ++ v) left h.0 (contains_in left h.0 member)))

-- with equal threads once
module _ (i : ItemView) (w : List ℕ) where
  abbrev p : Program
  p = i.program

  abbrev s : Snapshot
  s = state_of i

  abbrev Z : ℕ → Bool
  Z = has i.mask

  abbrev seen : List ℕ → Bool
  seen = is_unhidden (is_hidden p) p s (last_of i.prefix)

  abbrev seen_all : List ℕ → Bool
  seen_all = is_unhidden (hides_equal p) p s None

  pub item_once_members : (bound : ℕ) →
      Contains (schedules_of (BoundedOnce bound) i) w ↔
      ((v : List ℕ) × (w ≡ i.prefix ++ v) × (is_complete p s v ≡ true) × (seen v ≡ true)
      × (preemptions p w ≤ bound))
  unfolding complete_once
  item_once_members bound = (there, back)
    where
      low : List ℕ → Bool
      low u = nat_le (preemptions p u) bound

      few : (n : ℕ) → nat_le n bound ≡ true → n ≤ bound
      few n e = grind (arith, nat_tests, e)

      there : Contains (schedules_of (BoundedOnce bound) i) w →
          (v : List ℕ) × (w ≡ i.prefix ++ v) × (is_complete p s v ≡ true) × (seen v ≡ true)
          × (preemptions p w ≤ bound)
      there c =
          let a = from_filter low (unhidden_schedules i) w (contains_in _ w c) in
          let b = from_map (λ v. i.prefix ++ v) (complete_once p s (last_of i.prefix)) w a.0 in
          let d = from_filter seen (complete_schedules p s) b.0 b.1 in
          (b.0, sym b.2, in_all p s b.0 d.0, d.1, few (preemptions p w) a.1)

      back : (v : List ℕ) × (w ≡ i.prefix ++ v) × (is_complete p s v ≡ true) × (seen v ≡ true)
          × (preemptions p w ≤ bound) → Contains (schedules_of (BoundedOnce bound) i) w
      back h =
          let le = h.4 in
          let m = in_map (λ v. i.prefix ++ v) (complete_once p s (last_of i.prefix)) h.0
          (in_filter seen (complete_schedules p s) h.0 (schedules_cut_at p s h.0 h.2) h.3) in
          in_contains _ w (in_filter low (unhidden_schedules i) w
          (subst (In (unhidden_schedules i)) (sym h.1) m) (grind (arith, nat_tests, le)))

  pub item_once_kept :
      Contains (schedules_of ReducedOnce i) w ↔
      ((v : List ℕ) × (w ≡ i.prefix ++ v) × (is_kept p s Z v ≡ true) × (seen_all v ≡ true))
  unfolding reduced_once
  item_once_kept = (there, back)
    where
      there : Contains (schedules_of ReducedOnce i) w →
          (v : List ℕ) × (w ≡ i.prefix ++ v) × (is_kept p s Z v ≡ true) × (seen_all v ≡ true)
      there c =
          let b = from_map (λ v. i.prefix ++ v) (reduced_once p s Z) w (contains_in _ w c) in
          let d = from_filter seen_all (reduced_schedules p s Z) b.0 b.1 in
          (b.0, sym b.2, ((reduced_members p s Z b.0).0 (in_contains _ b.0 d.0)).1, d.1)

      back : (v : List ℕ) × (w ≡ i.prefix ++ v) × (is_kept p s Z v ≡ true)
          × (seen_all v ≡ true) → Contains (schedules_of ReducedOnce i) w
      back h =
          let kept = (reduced_members p s Z h.0).1
          ((complete p s h.0).0 (kept_complete p s Z h.0 h.2), h.2) in
          in_contains _ w (subst (In (unhidden_kept i)) (sym h.1)
          (in_map (λ v. i.prefix ++ v) (reduced_once p s Z) h.0
          (in_filter seen_all (reduced_schedules p s Z) h.0 (contains_in _ h.0 kept) h.3)))

pub item_beyond : (i : ItemView) (bound : ℕ) →
    (goes_beyond (Bounded bound) i ≡ true) ↔
    ((w : List ℕ) × IsScheduleOf i w × (bound < preemptions i.program w))
item_beyond i bound =
    let is = beyond_is i.program i.prefix bound in (
      λ h. let r = is.0 h in (r.0, (in_under i.program i.prefix r.0).1 r.1, r.2),
      λ k. is.1 (k.0, (in_under i.program i.prefix k.0).0 k.1, k.2),
    )

-- each member comes before all later ones
abbrev InOrder : List (List ℕ) → Type 0
InOrder L = AllPairs (λ v w. precedes v w ≡ true) L

any_default : (L : List (List ℕ)) (i : ℕ) (c d : List ℕ) → i < length L →
    get_or L i c ≡ get_or L i d
any_default [] i c d h = absurd (omega arith)
any_default (w ∷ L) zero c d h = refl
any_default (w ∷ L) (suc i) c d h = any_default L i c d (omega arith)

in_order : (L : List (List ℕ)) → IsRising L → InOrder L
in_order L rising i j d h k =
    subst (λ v. precedes v (get_or L j d) ≡ true) (any_default L i [] d (omega (arith, h, k)))
    (subst (λ w. precedes (get_or L i []) w ≡ true) (any_default L j [] d k) (rising i j h k))

precedes_after : (x v w : List ℕ) → precedes v w ≡ true → precedes (x ++ v) (x ++ w) ≡ true
precedes_after [] v w h = h
precedes_after (t ∷ x) v w h =
    let later : nat_lt t t ≡ false = grind (arith, nat_tests) in
    let same : nat_eq t t ≡ true = grind (arith, nat_tests) in
    rw (later, same) (precedes_after x v w h)

after_in_order : (x : List ℕ) (L : List (List ℕ)) → InOrder L → InOrder (map (λ w. x ++ w) L)
after_in_order x L h i j d less within =
    let count : length (map (λ w. x ++ w) L) ≡ length L = length-map L (λ w. x ++ w) in
    let late : j < length L = omega (arith, within, count) in
    let early : i < length L = omega (arith, less, late) in
    (λ k. precedes (get_or-map (λ w. x ++ w) L i d d early k) (get_or-map (λ w. x ++ w) L j d d
    late k))
    ∙ precedes_after x (get_or L i d) (get_or L j d) (h i j d less late)

some_in_order : (test : List ℕ → Bool) (L : List (List ℕ)) → InOrder L → InOrder (filter test L)
some_in_order = AllPairs-filter (λ v w. precedes v w ≡ true)

module _ (p : Program) (s : Snapshot) where
  complete_in_order : InOrder (complete_schedules p s)
  complete_in_order = in_order (complete_schedules p s) (all_rise p s)

  reduced_in_order : (Z : ℕ → Bool) → InOrder (reduced_schedules p s Z)
  unfolding reduced_schedules
  reduced_in_order Z = some_in_order (is_kept p s Z) (complete_schedules p s) complete_in_order

  once_in_order : (last : Option ℕ) → InOrder (complete_once p s last)
  unfolding complete_once
  once_in_order last = some_in_order (is_unhidden (is_hidden p) p s last) (complete_schedules p s)
      complete_in_order

  reduced_once_in_order : (Z : ℕ → Bool) → InOrder (reduced_once p s Z)
  unfolding reduced_once
  reduced_once_in_order Z = some_in_order (is_unhidden (hides_equal p) p s None)
      (reduced_schedules p s Z) (reduced_in_order Z)

within_in_order : (p : Program) (prefix : List ℕ) (bound : ℕ) →
    InOrder (schedules_within p prefix bound)
unfolding schedules_within schedules_under
within_in_order p prefix bound =
    some_in_order (λ w. nat_le (preemptions p w) bound)
    (filter (begins_with prefix) (complete_schedules p (start p)))
    (some_in_order (begins_with prefix) (complete_schedules p (start p))
    (complete_in_order p (start p)))

items_in_order : (mode : Mode) (i : ItemView) → InOrder (schedules_of mode i)
items_in_order (Bounded bound) i = within_in_order i.program i.prefix bound
items_in_order Reduced i =
    after_in_order i.prefix (reduced_schedules i.program (state_of i) (has i.mask))
    (reduced_in_order i.program (state_of i) (has i.mask))
items_in_order (BoundedOnce bound) i =
    some_in_order (λ w. nat_le (preemptions i.program w) bound) (unhidden_schedules i)
    (after_in_order i.prefix (complete_once i.program (state_of i) (last_of i.prefix))
    (once_in_order i.program (state_of i) (last_of i.prefix)))
items_in_order ReducedOnce i =
    after_in_order i.prefix (reduced_once i.program (state_of i) (has i.mask))
    (reduced_once_in_order i.program (state_of i) (has i.mask))

pub item_rises : (mode : Mode) (i : ItemView) → IsRising (schedules_of mode i)
item_rises mode item i j h k = items_in_order mode item i j [] h k

-- an item whose own prefix is past the bound

pub past_none : (once : Bool) (i : ItemView) (bound : ℕ) → IsItem i →
    bound < preemptions i.program i.prefix → schedules_of (up_to once bound) i ≡ []
past_none once i bound h past = bounded_none once bound i past

pub past_beyond : (once : Bool) (i : ItemView) (bound : ℕ) → IsItem i →
    bound < preemptions i.program i.prefix → goes_beyond (up_to once bound) i ≡ true
past_beyond once i bound h past = bounded_beyond once bound i h past

-- sums

pub join-beyond : (p : Program) (K L : List (List ℕ)) (a b : Bool) →
    with_beyond (sum_of p (K ++ L)) (a || b)
    ≡ join (with_beyond (sum_of p K) a) (with_beyond (sum_of p L) b)
unfolding sum_of join
join-beyond p K L a b = ap (λ (t : SummaryView). with_beyond t (a || b)) (sum_of-append p K L)

nothing_of : (p : Program) → with_beyond (sum_of p []) false ≡ nothing
unfolding sum_of
nothing_of p = refl

pub joined_is : (p : Program) (mode : Mode) (items : List ItemView) → AreOf p items →
    with_beyond (sum_of p (flat_map (schedules_of mode) items)) (list_any (goes_beyond mode) items)
    ≡ item_sums mode items
joined_is p mode [] h = nothing_of p
joined_is p mode (x ∷ xs) h =
    let same : x.program ≡ p = All-head (λ (r : ItemView). r.program ≡ p) x xs h in
    let rest : AreOf p xs =
    All-tail (λ (r : ItemView). r.program ≡ p) x xs h in
    join-beyond p (schedules_of mode x) (flat_map (schedules_of mode) xs) (goes_beyond mode x)
    (list_any (goes_beyond mode) xs)
    ∙ (λ i. join (with_beyond (sum_of (sym same i) (schedules_of mode x)) (goes_beyond mode x))
    (joined_is p mode xs rest i))

-- where an item's schedules are what was tried and those of the rest, its sum is their join
pub joined_sum : (mode : Mode) (item : ItemView) (part : SummaryView)
    (rest deferred : List ItemView) (h : IsSplit mode item part rest deferred) →
    IsPermutation (schedules_of mode item) (h.tried ++ flat_map (schedules_of mode) rest) →
    item_sum mode item ≡ join part (item_sums mode rest)
joined_sum mode item part rest deferred h moved =
    let same : AreOf item.program rest =
    All-weaker (IsBelow item) (λ (r : ItemView). r.program ≡ item.program) (λ r b. b.program) rest
    (all_left (IsBelow item) rest deferred h.below) in
    (λ i. with_beyond (sum_of-permutation item.program _ _ moved i) (h.beyond i))
    ∙ (join-beyond item.program h.tried (flat_map (schedules_of mode) rest) part.beyond
    (list_any (goes_beyond mode) rest)
    ∙ (λ i. join (sym h.sum i) (joined_is item.program mode rest same i)))

walked_moved : (w : WalkView) (h : IsWalked w) →
    IsPermutation (schedules_of w.mode w.item)
    (h.split.tried ++ flat_map (schedules_of w.mode) w.rest)
walked_moved w h =
    subst (IsPermutation (schedules_of w.mode w.item)) h.schedules (IsPermutation-refl _)

pub walked_sum : (w : WalkView) → IsWalked w →
    item_sum w.mode w.item ≡ join w.part (item_sums w.mode w.rest)
walked_sum w h =
    joined_sum w.mode w.item w.part w.rest w.deferred h.split (walked_moved w h)

-- the schedules of the rest

pub bounded_has : (bound : ℕ) (above below : ItemView) → IsBelow above below →
    HasItsOf (Bounded bound) above below
bounded_has bound above below b =
    ap (λ (p : Program). schedules_within p below.prefix bound) b.program
    ∙ schedules_within-longer above.program above.prefix below.prefix bound b.prefix

-- with equal threads once: a rest that is reached by a step of a hidden thread has none at all
once_has : (bound : ℕ) (item : ItemView) (part : SummaryView) (rest deferred : List ItemView) →
    IsSplit (BoundedOnce bound) item part rest deferred →
    All (HasItsOf (BoundedOnce bound) item) rest
once_has bound item part rest deferred h k d l =
    (λ j. filter (λ w. nat_le (preemptions (below.program j) w) bound)
    (unhidden_below item r below own j))
    ∙ filter_swap (λ w. nat_le (preemptions item.program w) bound) (begins_with r.prefix)
    (unhidden_schedules item)
  where
    r : ItemView
    r = get_or rest k d

    below : IsBelow item r
    below = all_left (IsBelow item) rest deferred h.below k d l

    fits : preemptions item.program item.prefix ≤ bound
    fits =
        let low = h.cut.within k d l in
        let same = ap (λ (q : Program). preemptions q r.prefix) below.program in
        let more = preemptions_more item.program item.prefix r.prefix below.prefix in
        omega (arith, low, same, more)

    own : (v : List ℕ) → In (unhidden_schedules r) v → In (unhidden_schedules item) v
    own v m =
        contains_in (unhidden_schedules item) v
        (Contains-permutation _ _ v (IsPermutation-sym _ _ (h.all fits))
        (in_contains _ v (in_right h.tried _ v (in_flat_map unhidden_schedules (rest ++ deferred) r
        v (in_left rest deferred r (contains_in rest r (All-contains_itself rest k d l))) m))))

-- each of the rest has the item's that begin with its prefix
pub rest_has : (mode : Mode) (item : ItemView) (part : SummaryView)
    (rest deferred : List ItemView) → IsSplit mode item part rest deferred →
    All (HasItsOf mode item) rest
rest_has (Bounded bound) item part rest deferred h =
    All-weaker (IsBelow item) (HasItsOf (Bounded bound) item)
    (λ r b. bounded_has bound item r b) rest (all_left (IsBelow item) rest deferred h.below)
rest_has Reduced item part rest deferred h = h.cut.schedules
rest_has (BoundedOnce bound) item part rest deferred h = once_has bound item part rest deferred h
rest_has ReducedOnce item part rest deferred h = h.cut.schedules

pub walked_has : (w : WalkView) → IsWalked w → All (HasItsOf w.mode w.item) w.rest
walked_has w h = rest_has w.mode w.item w.part w.rest w.deferred h.split

-- what was tried is what lies under none of the rest

clear_none : (items : List ItemView) (L : List (List ℕ)) →
    ((v : List ℕ) → In L v → is_under items v ≡ true) → clear_of items L ≡ []
clear_none items [] h = refl
clear_none items (v ∷ L) h =
    ap (λ b. cond (not b) (v ∷ clear_of items L) (clear_of items L)) (h v (inl refl))
    ∙ clear_none items L (λ w m. h w (inr m))

in_some : (L : List (List ℕ)) (v : List ℕ) → In L v → 0 < length L
in_some [] v m = absurd m
in_some (w ∷ L) v m = omega arith

module _ (mode : Mode) (item : ItemView) (tried : List (List ℕ)) (rest : List ItemView)
    (has : All (HasItsOf mode item) rest)
    (moved : IsPermutation (schedules_of mode item)
    (tried ++ flat_map (schedules_of mode) rest)) where
  -- of the schedules of some items, no fewer begin with the prefix of one of them than it has
  its_own : (xs : List ItemView) (r : ItemView) → In xs r →
      length (schedules_of mode r)
      ≤ length (filter (begins_with r.prefix) (flat_map (schedules_of mode) xs))
  its_own [] r m = absurd m
  its_own (x ∷ xs) r m =
      let both = ap length (filter-append (begins_with r.prefix) (schedules_of mode x)
      (flat_map (schedules_of mode) xs)) in
      let add = length-append (filter (begins_with r.prefix) (schedules_of mode x))
      (filter (begins_with r.prefix) (flat_map (schedules_of mode) xs)) in
      elim m [
        | inl e ↦ (let whole = ap length (filter_whole (begins_with r.prefix) (schedules_of mode x)
            (λ v k. subst (λ (i : ItemView). begins_with i.prefix v ≡ true) e
            (begins_own mode x v k))) in
            let same = ap (λ i. length (schedules_of mode i)) e in
            omega (arith, both, add, whole, same))
        | inr k ↦ (let more = its_own xs r k in omega (arith, both, add, more))
      ]

  -- so none of these was tried
  untried : (v : List ℕ) (r : ItemView) → In tried v → In rest r →
      begins_with r.prefix v ≡ true → ⊥
  untried v r t m e =
      let its : HasItsOf mode item r =
      All-contains (HasItsOf mode item) rest r has (in_contains rest r m) in
      let all = length_permutation _ _ (filter-permutation (begins_with r.prefix) _ _ moved) in
      let both = ap length (filter-append (begins_with r.prefix) tried
      (flat_map (schedules_of mode) rest)) in
      let add = length-append (filter (begins_with r.prefix) tried)
      (filter (begins_with r.prefix) (flat_map (schedules_of mode) rest)) in
      let some = in_some (filter (begins_with r.prefix) tried) v
      (in_filter (begins_with r.prefix) tried v t e) in
      let own = its_own rest r m in
      let same = ap length its in
      omega (arith, all, both, add, some, own, same)

  clear_tried : (v : List ℕ) → In tried v → not (is_under rest v) ≡ true
  clear_tried v t = go (is_under rest v) refl
    where
      go : (b : Bool) → is_under rest v ≡ b → not b ≡ true
      go true e =
          let r = any_in (λ i. begins_with i.prefix v) rest e in absurd (untried v r.0 t r.1 r.2)
      go false e = refl

  pub clear_part : IsPermutation (clear_of rest (schedules_of mode item)) tried
  clear_part =
      subst (IsPermutation (clear_of rest (schedules_of mode item)))
      (filter-append (λ v. not (is_under rest v)) tried (flat_map (schedules_of mode) rest)
      ∙ ((λ k. sym (filter_whole (λ v. not (is_under rest v)) tried clear_tried) k
      ++ clear_none rest (flat_map (schedules_of mode) rest) (under_own mode rest) k)
      ∙ append-nil tried))
      (filter-permutation (λ v. not (is_under rest v)) _ _ moved)

walked_clear : (w : WalkView) (h : IsWalked w) → IsPermutation (tried_by w) h.split.tried
walked_clear w h =
    clear_part w.mode w.item h.split.tried w.rest (walked_has w h) (walked_moved w h)

-- no schedule lies under two

counted : (v : List ℕ) (items : List ItemView) (i : ℕ) (d : ItemView) → i < length items →
    begins_with (get_or items i d).prefix v ≡ true → 1 ≤ covers v items
counted v [] i d h e = absurd (omega arith)
counted v (x ∷ xs) zero d h e = rw e (omega arith)
counted v (x ∷ xs) (suc i) d h e =
    let more : 1 ≤ covers v xs = counted v xs i d (omega arith) e in
    omega (arith, more)

counted_twice : (v : List ℕ) (items : List ItemView) (i j : ℕ) (d : ItemView) → i < j →
    j < length items →
    begins_with (get_or items i d).prefix v ≡ true →
    begins_with (get_or items j d).prefix v ≡ true → 2 ≤ covers v items
counted_twice v [] i j d h k e f = absurd (omega arith)
counted_twice v (x ∷ xs) i zero d h k e f = absurd (omega arith)
counted_twice v (x ∷ xs) zero (suc j) d h k e f =
    let more : 1 ≤ covers v xs = counted v xs j d (omega arith) f in
    rw e (omega (arith, more))
counted_twice v (x ∷ xs) (suc i) (suc j) d h k e f =
    let more : 2 ≤ covers v xs = counted_twice v xs i j d (omega arith) (omega arith) e f in
    omega (arith, more)

-- of these items none lies under two of their places
pub one_place : (items : List ItemView) (v : List ℕ) (i j : ℕ) (d : ItemView) →
    covers v items ≤ 1 → i < j → j < length items →
    begins_with (get_or items i d).prefix v ≡ true →
    begins_with (get_or items j d).prefix v ≡ false
one_place items v i j d one l k e = go (begins_with (get_or items j d).prefix v) refl
  where
    go : (b : Bool) → begins_with (get_or items j d).prefix v ≡ b →
        begins_with (get_or items j d).prefix v ≡ false
    go true f =
        let two : 2 ≤ covers v items = counted_twice v items i j d l k e f in
        absurd (omega (arith, two, one))
    go false f = f

pub walked_apart : (w : WalkView) (v : List ℕ) (i j : ℕ) (d : ItemView) → IsWalked w → i < j →
    j < length (w.rest ++ w.deferred) →
    begins_with (get_or (w.rest ++ w.deferred) i d).prefix v ≡ true →
    begins_with (get_or (w.rest ++ w.deferred) j d).prefix v ≡ false
walked_apart w v i j d h l k e =
    let few = at_most_one (begins_with w.item.prefix v) in
    let all = h.split.apart v in
    one_place (w.rest ++ w.deferred) v i j d (omega (arith, few, all)) l k e

-- what was tried

none_under : (v : List ℕ) (items : List ItemView) → is_under items v ≡ false →
    All (λ i. begins_with i.prefix v ≡ false) items
none_under v [] h = All-nil (λ (i : ItemView). begins_with i.prefix v ≡ false)
none_under v (x ∷ xs) h =
    let both = or_parts (begins_with x.prefix v) (is_under xs v) h in
    All-cons (λ (i : ItemView). begins_with i.prefix v ≡ false) x xs both.0
    (none_under v xs both.1)

filter_member : (test : List ℕ → Bool) (L : List (List ℕ)) (v : List ℕ) → Contains L v →
    test v ≡ true → Contains (filter test L) v
filter_member test L v c h = at L c.0 c.1 c.2
  where
    more : (x : List ℕ) (xs : List (List ℕ)) → Contains xs v → Contains (x ∷ xs) v
    more x xs d = (suc d.0, omega (arith, d.1), d.2)

    at : (L : List (List ℕ)) (k : ℕ) → k < length L → get_or L k v ≡ v → Contains (filter test L) v
    at [] k l e = absurd (omega arith)
    at (x ∷ xs) zero l e = rw (ap test e ∙ h) (0, omega arith, e)
    at (x ∷ xs) (suc k) l e =
        elim (test x) as (λ b. Contains (cond b (x ∷ filter test xs) (filter test xs)) v) [
          | true ↦ more x (filter test xs) (at xs k (omega arith) e)
          | false ↦ at xs k (omega arith) e
        ]

pub walked_tried : (w : WalkView) (v : List ℕ) →
    Contains (tried_by w) v ↔
    (Contains (schedules_of w.mode w.item) v × All (λ r. begins_with r.prefix v ≡ false) w.rest)
walked_tried w v = (
  λ c. (
    All-contains (Contains all) (tried_by w) v
        (All-filter test (Contains all) all (All-contains_itself all)) c,
    none_under v w.rest
        (not-true (is_under w.rest v)
        (All-contains (λ u. test u ≡ true) (tried_by w) v (filter_passes test all) c)),
  ),
  λ h. filter_member test all v h.0
      (not_from_false (is_under w.rest v)
      (list_any_none (λ (i : ItemView). begins_with i.prefix v) w.rest h.1)),
)
  where
    all : List (List ℕ)
    all = schedules_of w.mode w.item

    test : List ℕ → Bool
    test u = not (is_under w.rest u)

pub walked_part : (w : WalkView) → IsWalked w →
    w.part ≡ with_beyond (sum_of w.item.program (tried_by w)) w.part.beyond
walked_part w h =
    h.split.sum ∙ ap (λ (t : SummaryView). with_beyond t w.part.beyond)
    (sym (sum_of-permutation w.item.program _ _ (walked_clear w h)))

-- counts

counts_of : (mode : Mode) (items : List ItemView) →
    length (flat_map (schedules_of mode) items) ≡ schedule_count mode items
counts_of mode [] = refl
counts_of mode (x ∷ xs) =
    length-append (schedules_of mode x) (flat_map (schedules_of mode) xs)
    ∙ ap (λ n. length (schedules_of mode x) + n) (counts_of mode xs)

pub walked_counts : (w : WalkView) → IsWalked w →
    length (schedules_of w.mode w.item) ≡ length (tried_by w) + schedule_count w.mode w.rest
walked_counts w h =
    ap length h.schedules
    ∙ (length-append h.split.tried (flat_map (schedules_of w.mode) w.rest)
    ∙ (λ i. length_permutation _ _ (walked_clear w h) i + counts_of w.mode w.rest i))

tried_of : (p : Program) (L : List (List ℕ)) (b : Bool) →
    (with_beyond (sum_of p L) b).tried ≡ cut (length L)
unfolding sum_of
tried_of p L b = refl

pub walked_count : (w : WalkView) → IsWalked w → w.part.tried ≡ cut (length (tried_by w))
walked_count w h = ap (λ (t : SummaryView). t.tried) h.split.sum
    ∙ (tried_of w.item.program h.split.tried w.part.beyond
    ∙ ap cut (length_permutation _ _ (walked_clear w h)))

pub walked_uncut : (w : WalkView) → IsWalked w → w.part.tried < greatest_count →
    length (schedules_of w.mode w.item) ≡ w.part.tried + schedule_count w.mode w.rest
walked_uncut w h less = let a = walked_counts w h in let b = walked_count w h in omega arith

-- order

parts_in_order : (K L : List (List ℕ)) (v u : List ℕ) → InOrder (K ++ L) → Contains K v →
    Contains L u → precedes v u ≡ true
parts_in_order K L v u order c d =
    let i : ℕ = c.0 in
    let j : ℕ = length K + d.0 in
    let l : i < length K = c.1 in
    let k : d.0 < length L = d.1 in
    let whole : length (K ++ L) ≡ length K + length L = length-append K L in
    let first : get_or (K ++ L) i v ≡ v = get_or_append_left K L v i l ∙ c.2 in
    let second : get_or (K ++ L) j v ≡ u = get_or-append-add K L d.0 v
    ∙ (any_default L d.0 v u k ∙ d.2) in
    subst (λ x. precedes x u ≡ true) first
    (subst (λ x. precedes (get_or (K ++ L) i v) x ≡ true) second
    (order i j v (omega (arith, l)) (omega (arith, k, whole))))

pub walked_order : (w : WalkView) (v u : List ℕ) → IsWalked w →
    Contains (tried_by w) v → Contains (schedules_of w.mode w.item) u → is_under w.rest u ≡ true →
    precedes v u ≡ true
walked_order w v u h c d e =
    go (Contains-append_cases h.split.tried left u (subst (λ L. Contains L u) h.schedules d))
  where
    left : List (List ℕ)
    left = flat_map (schedules_of w.mode) w.rest

    go : Contains h.split.tried u ⊎ Contains left u → precedes v u ≡ true
    go (inl a) =
        let none : not (is_under w.rest u) ≡ true =
        All-contains (λ z. not (is_under w.rest z) ≡ true) (tried_by w) u
        (filter_passes (λ z. not (is_under w.rest z)) (schedules_of w.mode w.item))
        (Contains-permutation _ _ u (IsPermutation-sym _ _ (walked_clear w h)) a) in
        let f : not true ≡ true = ap not (sym e) ∙ none in
        cc
    go (inr b) = parts_in_order h.split.tried left v u
        (subst InOrder h.schedules (items_in_order w.mode w.item))
        (Contains-permutation _ _ v (walked_clear w h) c) b
