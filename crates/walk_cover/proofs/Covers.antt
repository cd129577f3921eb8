-- Covers: an item is one of itself, what it goes on to is one, covers of parts make one; and what
-- a cover is good for.
use Rattle.std.proofs.Common.{◌≡◌, ℕ, zero, suc, ◌+◌, ◌<◌, ◌≤◌, Bool, true, false, cond, ◌||◌}
use Rattle.std.proofs.Common.{nat_lt, List, [], ◌∷◌, ◌++◌, refl, ap, ◌∙◌, sym, subst, arith}
use Rattle.std.proofs.Common.{IsPermutation}
use Rattle.std.specs.List.{All, filter, flat_map, list_any, Contains}
use Rattle.std.proofs.lemmas.List.{append-nil, map-append}
use Rattle.std.proofs.lemmas.List.Elements.{All-nil, All-cons, All-head, All-tail, All-append}
use Rattle.std.proofs.lemmas.List.Elements.{All-weaker, All-map}
use Rattle.std.proofs.lemmas.List.Sorted.{IsPermutation-refl, IsPermutation-sym}
use Rattle.std.proofs.lemmas.List.Sorted.{IsPermutation-filter_both, All-permutation}
use Rattle.std.proofs.lemmas.List.Sorted.{list_any-IsPermutation, IsPermutation-map}
use Rattle.std.proofs.lemmas.List.Sorted.{Contains-permutation}
use Rattle.guest_code.specs.{Program.{Program, IsWellFormed}, declared.limits.TheConstants.COUNT}
use Rattle.semantics.specs.{Ends.is_terminal, Machine.start, Mask.one_if, Reachable.IsOf}
use Rattle.semantics.{specs.Waiters.In, proofs.ListMembers.{contains_in, in_contains, in_filter}}
use Rattle.semantics.proofs.StepsKeepStates.{start_is_of}
use Rattle.semantics_schedules.specs.Order.{is_complete}
use Rattle.semantics_schedules.specs.Schedules.{begins_with, preemptions, schedules_under, exceeds_bound, runs, state_after}
use Rattle.semantics_schedules.specs.Sleep.{is_kept, none_asleep}
use Rattle.semantics_schedules.proofs.KeptSchedules.{reduced_members, kept_complete}
use Rattle.semantics_schedules.proofs.RunsKeepStates.{run_is_of}
use Rattle.semantics_schedules.proofs.SchedulesUnderPrefix.{begins_further, begins_itself, in_within, in_under, schedules_under-longer}
use Rattle.semantics_schedules.proofs.StatedLaws.{complete}
use Rattle.walk_items.specs.Children.{next_steps, kept_steps, past_steps, is_kept_step, is_past_step, children, past_children, children_of, child_of}
use Rattle.walk_items.specs.Items.{ItemView, IsItem, state_of, root_of, schedules_of, everything}
use Rattle.walk_items.specs.Items.{goes_beyond, item_sum, item_sums, covers, is_under}
use Rattle.walk_items.specs.{Walks.{IsBelow, HasItsOf}, declared.mode.Mode.Mode}
use Rattle.walk_items.specs.declared.mode.Mode.TheVariants.{Bounded, Reduced}
use Rattle.walk_items.proofs.Children.{begins_all, begins_own, under_all, children_all}
use Rattle.walk_items.proofs.Children.{children_apart, children_below, children_pruned}
use Rattle.walk_items.proofs.Children.{reduced_past, past_is}
use Rattle.walk_items.proofs.Covers.{at_most_one, covers-append}
use Rattle.walk_items.proofs.Filters.{filter_all, filter_longer, filter_whole}
use Rattle.walk_items.proofs.Permutations.{sum_of-permutation, covers-permutation}
use Rattle.walk_items.proofs.Splits.{below_further}
use Rattle.walk_items.proofs.WalkedItems.{bounded_has, joined_is, past_none, past_beyond, root_pruned}
use Rattle.walk_summary.specs.Summaries.{SummaryView, nothing, sum_of, with_beyond}
use Rattle.walk_summary.proofs.SumsJoin.{sum_of_none}
use Rattle.walk_cover.specs.{Covers.{IsCover, plain}, Prefixes.{longer, further, prefixes_of}}
use Rattle.walk_cover.proofs.Gathered.{under_item, gathered, any_gathered}
use Rattle.walk_cover.proofs.Plain.{by_plain, longer_plain}

-- of all that begins with an item's prefix, one below it has what begins with its own
pub its_all : (mode : Mode) (item r : ItemView) → IsBelow item r → HasItsOf (plain mode) item r →
    everything (plain mode) r ≡ under_item (everything (plain mode) item) r
its_all mode item r b =
    by_plain (λ m. HasItsOf m item r → everything m r ≡ under_item (everything m item) r)
    (λ bound own. ap (λ (p : Program). schedules_under p r.prefix) b.program
    ∙ schedules_under-longer item.program item.prefix r.prefix b.prefix) (λ own. own) mode

-- each of an item's schedules is among all that begins with its prefix
among_all : (mode : Mode) (item : ItemView) (w : List ℕ) → In (schedules_of (plain mode) item) w →
    Contains (everything (plain mode) item) w
among_all mode item w =
    by_plain (λ m. In (schedules_of m item) w → Contains (everything m item) w)
    (λ bound m. ((in_within item.program item.prefix bound w).1 (in_contains _ w m)).0)
    (λ m. in_contains _ w m) mode

-- an item is a cover of itself
pub self_cover : (mode : Mode) (i : ItemView) → IsItem i → IsCover mode i (i ∷ [])
self_cover mode i h = record {
  below = All-cons (IsBelow i) i [] (record {
    program = refl;
    item = h;
    prefix = begins_itself i.prefix;
  }) (All-nil (IsBelow i));
  own = All-cons (HasItsOf (plain mode) i) i []
      (filter_whole (begins_with i.prefix) (schedules_of (plain mode) i)
      (begins_own (plain mode) i)) (All-nil (HasItsOf (plain mode) i));
  once = λ w c. let e = begins_all (plain mode) i w (contains_in _ w c) in
      rw e refl;
}

-- what an item goes on to

some_cover : (items : List ItemView) (w : List ℕ) → is_under items w ≡ true →
    1 ≤ covers w items
some_cover [] w h = cc
some_cover (r ∷ rs) w h = go (begins_with r.prefix w) h (some_cover rs w)
  where
    go : (b : Bool) → (b || is_under rs w) ≡ true →
        (is_under rs w ≡ true → 1 ≤ covers w rs) → 1 ≤ one_if b + covers w rs
    go true e rest = omega arith
    go false e rest = let more = rest e in omega (arith, more)

has_own : (mode : Mode) (i : ItemView) → IsItem i → IsOf i.program (state_of i) →
    All (HasItsOf (plain mode) i) (children (plain mode) i ++ past_children (plain mode) i)
has_own mode i h of =
    by_plain (λ m. All (HasItsOf m i) (children m i ++ past_children m i))
    (λ bound. All-weaker (IsBelow i) (HasItsOf (Bounded bound) i) (λ r b. bounded_has bound i r b)
    (children (Bounded bound) i ++ past_children (Bounded bound) i)
    (children_below (Bounded bound) i h))
    (subst (λ ts. All (HasItsOf Reduced i) (children Reduced i ++ children_of Reduced i ts))
    (sym (reduced_past i))
    (subst (All (HasItsOf Reduced i)) (sym (append-nil (children Reduced i)))
    (children_pruned i h of))) mode

-- the steps that are gone into are those that stay within the bound and those that pass it
steps_parted : (mode : Mode) (i : ItemView) →
    IsPermutation (children (plain mode) i ++ past_children (plain mode) i) (longer mode i)
steps_parted mode i =
    subst (IsPermutation (children (plain mode) i ++ past_children (plain mode) i))
    (longer_plain mode i)
    (by_plain (λ m. IsPermutation (children m i ++ past_children m i) (longer m i)) bounded
    (subst (λ L. IsPermutation L (longer Reduced i))
    (sym (ap (λ ts. children Reduced i ++ children_of Reduced i ts) (reduced_past i)
    ∙ append-nil (children Reduced i)))
    (IsPermutation-refl (longer Reduced i))) mode)
  where
    bounded : (bound : ℕ) → IsPermutation (children (Bounded bound) i
        ++ past_children (Bounded bound) i) (longer (Bounded bound) i)
    bounded bound =
        subst (λ L. IsPermutation L (longer at i))
        (map-append (child_of at i) (kept_steps at i) (past_steps at i))
        (IsPermutation-map (child_of at i) _ _
        (subst (IsPermutation (kept_steps at i ++ past_steps at i))
        (sym (filter_all (next_steps i)))
        (IsPermutation-sym _ _ (IsPermutation-filter_both (is_kept_step at i) (is_past_step at i)
        (past_is bound i) (next_steps i)))))
      where
        at : Mode
        at = Bounded bound

longer_cover : (mode : Mode) (i : ItemView) → IsItem i → IsOf i.program (state_of i) →
    is_terminal i.program (state_of i) ≡ false → IsCover mode i (longer mode i)
longer_cover mode i h of more = record {
  below = All-permutation (IsBelow i) _ _ moved (children_below (plain mode) i h);
  own = All-permutation (HasItsOf (plain mode) i) _ _ moved (has_own mode i h of);
  once = λ w c.
      let m = contains_in (flat_map (everything (plain mode)) parts) w
      (Contains-permutation _ _ w (children_all (plain mode) i h of more) c) in
      let some = some_cover parts w (under_all (plain mode) parts w m) in
      let few = children_apart (plain mode) i w in
      let one = at_most_one (begins_with i.prefix w) in
      let same = covers-permutation w _ _ moved in
      omega (arith, some, few, one, same);
}
  where
    parts : List ItemView
    parts = children (plain mode) i ++ past_children (plain mode) i

    moved : IsPermutation parts (longer mode i)
    moved = steps_parted mode i

pub further_cover : (mode : Mode) (i : ItemView) → IsItem i → IsOf i.program (state_of i) →
    IsCover mode i (further mode i)
further_cover mode i h of = go (is_terminal i.program (state_of i)) refl
  where
    go : (b : Bool) → is_terminal i.program (state_of i) ≡ b →
        IsCover mode i (cond b (i ∷ []) (longer mode i))
    go true e = self_cover mode i h
    go false e = longer_cover mode i h of e

-- covers of the items of a cover

pub none_below : (i : ItemView) (items : List ItemView) (w : List ℕ) → All (IsBelow i) items →
    begins_with i.prefix w ≡ false → covers w items ≡ 0
none_below i [] w b off = refl
none_below i (r ∷ rs) w b off =
    go (begins_with r.prefix w) refl (none_below i rs w (All-tail (IsBelow i) r rs b) off)
  where
    go : (on : Bool) → begins_with r.prefix w ≡ on → covers w rs ≡ 0 →
        one_if on + covers w rs ≡ 0
    go true e rest =
        let k : begins_with i.prefix w ≡ true =
        begins_further i.prefix r.prefix w (All-head (IsBelow i) r rs b).prefix e in
        absurd (cc)
    go false e rest = omega (arith, rest)

-- one below an item of an item
pub has_further : (mode : Mode) (item i d : ItemView) → IsBelow i d → HasItsOf mode item i →
    HasItsOf mode i d → HasItsOf mode item d
has_further mode item i d b own part =
    part ∙ (ap (filter (begins_with d.prefix)) own
    ∙ filter_longer (begins_with i.prefix) (begins_with d.prefix) (schedules_of mode item)
    (λ v. begins_further i.prefix d.prefix v b.prefix))

module _ (mode : Mode) (item : ItemView) (parts : ItemView → List ItemView) where
  pub has_all : (i : ItemView) (ds : List ItemView) → HasItsOf (plain mode) item i →
      All (IsBelow i) ds → All (HasItsOf (plain mode) i) ds → All (HasItsOf (plain mode) item) ds
  has_all i ds own b h =
      λ k d l. has_further (plain mode) item i _ (b k d l) own (h k d l)

  counted : (items : List ItemView) (w : List ℕ) → Contains (everything (plain mode) item) w →
      All (IsBelow item) items → All (HasItsOf (plain mode) item) items →
      All (λ i. IsCover mode i (parts i)) items → covers w (flat_map parts items) ≡ covers w items
  counted [] w c b own h = refl
  counted (i ∷ is) w c b own h =
      covers-append w (parts i) (flat_map parts is)
      ∙ (λ k. go (begins_with i.prefix w) refl k
      + counted is w c (All-tail (IsBelow item) i is b)
      (All-tail (HasItsOf (plain mode) item) i is own)
      (All-tail (λ r. IsCover mode r (parts r)) i is h) k)
    where
      cover : IsCover mode i (parts i)
      cover = All-head (λ r. IsCover mode r (parts r)) i is h

      go : (on : Bool) → begins_with i.prefix w ≡ on → covers w (parts i) ≡ one_if on
      go true e = cover.once w (in_contains _ w
          (subst (λ L. In L w) (sym (its_all mode item i (All-head (IsBelow item) i is b)
          (All-head (HasItsOf (plain mode) item) i is own)))
          (in_filter (begins_with i.prefix) (everything (plain mode) item) w
          (contains_in _ w c) e)))
      go false e = none_below i (parts i) w cover.below e

  all_parts : (P : ItemView → Type 0) (items : List ItemView) → All (λ i. All P (parts i)) items →
      All P (flat_map parts items)
  all_parts P [] h = All-nil P
  all_parts P (i ∷ is) h =
      All-append P (parts i) (flat_map parts is) (All-head (λ r. All P (parts r)) i is h)
      (all_parts P is (All-tail (λ r. All P (parts r)) i is h))

  pub parts_cover : (items : List ItemView) → IsCover mode item items →
      All (λ i. IsCover mode i (parts i)) items → IsCover mode item (flat_map parts items)
  parts_cover items h each = record {
    below = all_parts (IsBelow item) items (λ k d l m e n.
        below_further item _ _ (h.below k d l) ((each k d l).below m e n));
    own = all_parts (HasItsOf (plain mode) item) items (λ k d l.
        has_all _ _ (h.own k d l) (each k d l).below (each k d l).own);
    once = λ w c. counted items w c h.below h.own each ∙ h.once w c;
  }

-- the prefixes of a length

pub below_is_of : (p : Program) (r : ItemView) → IsWellFormed p → IsBelow (root_of p) r →
    IsOf r.program (state_of r)
below_is_of p r fine b =
    let there : runs r.program (start r.program) r.prefix ≡ true = b.item in
    subst (λ (q : Program). runs q (start q) r.prefix ≡ true → IsOf q (state_after q (start q)
    r.prefix)) (sym b.program) (λ h. run_is_of p (start p) r.prefix
    (start_is_of p fine.threads
    (All-map (λ n. n ≤ COUNT) (λ k. k.count) p.semaphores fine.counts)) h) there

pub prefixes_cover : (mode : Mode) (p : Program) (n : ℕ) → IsWellFormed p →
    IsCover mode (root_of p) (prefixes_of mode p n)
prefixes_cover mode p zero fine = self_cover mode (root_of p) refl
prefixes_cover mode p (suc n) fine =
    let cover : IsCover mode (root_of p) (prefixes_of mode p n) = prefixes_cover mode p n fine in
    parts_cover mode (root_of p) (further mode) (prefixes_of mode p n) cover
    (All-weaker (IsBelow (root_of p)) (λ i. IsCover mode i (further mode i))
    (λ i b. further_cover mode i b.item (below_is_of p i fine b)) (prefixes_of mode p n)
    cover.below)

-- sums

module _ (mode : Mode) (item : ItemView) where
  lists_alike : (f g : ItemView → List (List ℕ)) (items : List ItemView) →
      All (λ r. f r ≡ g r) items → flat_map f items ≡ flat_map g items
  lists_alike f g [] h = refl
  lists_alike f g (r ∷ rs) h =
      λ k. All-head (λ r. f r ≡ g r) r rs h k ++ lists_alike f g rs
      (All-tail (λ r. f r ≡ g r) r rs h) k

  cover_moved : (items : List ItemView) → IsCover mode item items →
      IsPermutation (schedules_of (plain mode) item) (flat_map (schedules_of (plain mode)) items)
  cover_moved items h =
      subst (IsPermutation own)
      (sym (lists_alike (schedules_of (plain mode)) (under_item own) items h.own))
      (gathered own items (λ w m. h.once w (among_all mode item w m)))
    where
      own : List (List ℕ)
      own = schedules_of (plain mode) item

any_alike : (f g : ItemView → Bool) (items : List ItemView) → All (λ r. f r ≡ g r) items →
    list_any f items ≡ list_any g items
any_alike f g [] h = refl
any_alike f g (r ∷ rs) h =
    λ k. All-head (λ r. f r ≡ g r) r rs h k || any_alike f g rs
    (All-tail (λ r. f r ≡ g r) r rs h) k

none_beyond : (items : List ItemView) → false ≡ list_any (λ (r : ItemView). false) items
none_beyond [] = refl
none_beyond (r ∷ rs) = none_beyond rs

cover_beyond : (mode : Mode) (item : ItemView) (items : List ItemView) → IsCover mode item items →
    goes_beyond (plain mode) item ≡ list_any (goes_beyond (plain mode)) items
unfolding exceeds_bound
cover_beyond mode item items h =
    by_plain (λ m. All (HasItsOf m item) items →
    ((w : List ℕ) → Contains (everything m item) w → covers w items ≡ 1) →
    goes_beyond m item ≡ list_any (goes_beyond m) items) bounded (λ own once. none_beyond items)
    mode h.own h.once
  where
    bounded : (bound : ℕ) → All (HasItsOf (Bounded bound) item) items →
        ((w : List ℕ) → Contains (everything (Bounded bound) item) w → covers w items ≡ 1) →
        goes_beyond (Bounded bound) item ≡ list_any (goes_beyond (Bounded bound)) items
    bounded bound own once =
        list_any-IsPermutation exceeds _ _ (gathered all items (λ w m. once w (in_contains _ w m)))
        ∙ (any_gathered exceeds (under_item all) items
        ∙ any_alike (λ r. list_any exceeds (under_item all r)) (goes_beyond (Bounded bound)) items
        (λ k d l. one _ (h.below k d l) (own k d l)))
      where
        all : List (List ℕ)
        all = everything (Bounded bound) item

        exceeds : List ℕ → Bool
        exceeds w = nat_lt bound (preemptions item.program w)

        one : (r : ItemView) → IsBelow item r → HasItsOf (Bounded bound) item r →
            list_any exceeds (under_item all r) ≡ goes_beyond (Bounded bound) r
        one r b its =
            λ k. list_any (λ w. nat_lt bound (preemptions (sym b.program k) w))
            (sym (its_all (Bounded bound) item r b its) k)

pub cover_sum : (mode : Mode) (item : ItemView) (items : List ItemView) →
    IsCover mode item items → item_sum (plain mode) item ≡ item_sums (plain mode) items
cover_sum mode item items h =
    (λ k. with_beyond
    (sum_of-permutation item.program _ _ (cover_moved mode item items h) k)
    (cover_beyond mode item items h k))
    ∙ joined_is item.program (plain mode) items (All-weaker (IsBelow item)
    (λ (r : ItemView). r.program ≡ item.program) (λ r b. b.program) items h.below)

pub past_sum : (i : ItemView) (bound : ℕ) → IsItem i → bound < preemptions i.program i.prefix →
    item_sum (Bounded bound) i ≡ with_beyond nothing true
past_sum i bound h past =
    (λ k. with_beyond (sum_of i.program (past_none false i bound h past k))
    (past_beyond false i bound h past k))
    ∙ ap (λ (t : SummaryView). with_beyond t true) (sum_of_none i.program)

-- what each of a program's schedules begins with

pub complete_once : (p : Program) (bound : ℕ) (items : List ItemView) (w : List ℕ) →
    IsCover (Bounded bound) (root_of p) items → is_complete p (start p) w ≡ true →
    covers w items ≡ 1
complete_once p bound items w h e = h.once w ((in_under p [] w).0 (e, refl))

pub pruned_once : (p : Program) (items : List ItemView) (w : List ℕ) →
    IsCover Reduced (root_of p) items → is_kept p (start p) none_asleep w ≡ true →
    covers w items ≡ 1
pruned_once p items w h e =
    h.once w (subst (λ L. Contains L w) (sym (root_pruned p))
    ((reduced_members p (start p) none_asleep w).1
    ((complete p (start p) w).0 (kept_complete p (start p) none_asleep w e), e)))
