-- What a split keeps: at the start, where a walk is settled, and at the next bound; and what
-- follows.
use Rattle.std.proofs.Common.{◌≡◌, ◌⊎◌, inl, inr, ℕ, ◌+◌, ◌≤◌, Bool, true, false, ◌||◌, nat_le}
use Rattle.std.proofs.Common.{nat_lt, List, [], ◌∷◌, ◌++◌, get_or, refl, ap, ◌∙◌, sym, subst, arith}
use Rattle.std.proofs.Common.{IsPermutation}
use Rattle.std.specs.List.{filter, flat_map, list_any, All, Contains}
use Rattle.std.proofs.Math.Bool.{or-false, or_assoc}
use Rattle.std.proofs.lemmas.{Bool.{or_parts, Decides.nat_tests}, Grind.flat_map-append}
use Rattle.std.proofs.lemmas.List.{append-nil}
use Rattle.std.proofs.lemmas.List.Elements.{All-nil, All-cons, All-append, All-head, All-tail}
use Rattle.std.proofs.lemmas.List.Elements.{All-contains, All-weaker, Contains-append_cases}
use Rattle.std.proofs.lemmas.List.Elements.{filter-append}
use Rattle.std.proofs.lemmas.List.Folds.{list_any-append, list_any_none}
use Rattle.std.proofs.lemmas.List.Sorted.{All-permutation, Contains-permutation, IsPermutation-refl}
use Rattle.std.proofs.lemmas.List.Sorted.{IsPermutation-trans, IsPermutation-append_comm}
use Rattle.std.proofs.lemmas.List.Sorted.{IsPermutation-append_left, IsPermutation-append_right}
use Rattle.std.proofs.lemmas.List.Sorted.{IsPermutation-middle, list_any-IsPermutation}
use Rattle.guest_code.specs.Program.{Program}
use Rattle.semantics_schedules.specs.Schedules.{begins_with, preemptions, schedules_within}
use Rattle.semantics_schedules.proofs.SchedulesUnderPrefix.{begins_further, begins_itself}
use Rattle.semantics.specs.Waiters.{In}
use Rattle.semantics.proofs.ListMembers.{contains_in, in_contains, in_filter, from_filter}
use Rattle.walk_items.specs.FullSums.{full_sum, full_sums}
use Rattle.walk_items.specs.Items.{ItemView, IsItem, root_of, schedules_of, everything, goes_beyond}
use Rattle.walk_items.specs.Items.{item_sum, item_sums, is_under}
use Rattle.walk_items.specs.Once.{up_to, pruned}
use Rattle.walk_items.specs.Walks.{HasItsOf, HasAllPast, IsBelow, IsDeferred, IsCutAt, IsPruned, IsCut, IsSplit, IsWithin, IsWalked, clear_of}
use Rattle.walk_items.specs.declared.mode.Mode.{Mode, TheVariants.{Bounded, Reduced}}
use Rattle.walk_items.specs.declared.mode.Mode.TheVariants.{BoundedOnce, ReducedOnce}
use Rattle.walk_items.proofs.Children.{begins_own, under_all, own_is, beyond_is, bounded_none}
use Rattle.walk_items.proofs.{Covers.covers-append}
use Rattle.walk_items.proofs.Filters.{filter_longer, filter_whole}
use Rattle.walk_items.proofs.ListParts.{all_left}
use Rattle.walk_items.proofs.Permutations.{flat_map-permutation, filter-permutation}
use Rattle.walk_items.proofs.Permutations.{sum_of-permutation, covers-permutation, parts_apart}
use Rattle.walk_items.proofs.Permutations.{placed-permutation, turned-permutation}
use Rattle.walk_items.proofs.WalkedItems.{join-beyond, joined_sum, rest_has, clear_part}
use Rattle.walk_summary.specs.Summaries.{SummaryView, IsSummary, nothing, sum_of, join, with_beyond}
use Rattle.walk_summary.proofs.SumsJoin.{sum_of-append, sum_of_none, sum_of-beyond, sum_kept}
use Rattle.walk_summary.proofs.SumsJoin.{join_nothing, join_beyond}

-- at the start all is open

pub root_within : (mode : Mode) (p : Program) → IsWithin mode (root_of p)
root_within (Bounded bound) p = omega arith
root_within Reduced p = tt
root_within (BoundedOnce bound) p = omega arith
root_within ReducedOnce p = tt

open_at : (bound : ℕ) (item : ItemView) → preemptions item.program item.prefix ≤ bound →
    IsCutAt bound (item ∷ []) []
open_at bound item fits = record {
  within = All-cons (λ r. preemptions r.program r.prefix ≤ bound) item [] fits
      (All-nil (λ r. preemptions r.program r.prefix ≤ bound));
  past = All-nil (IsDeferred bound);
}

open_pruned : (mode : Mode) (item : ItemView) → IsPruned mode item (item ∷ []) []
open_pruned mode item = record {
  none = refl;
  schedules = All-cons (HasItsOf mode item) item []
      (filter_whole (begins_with item.prefix) (schedules_of mode item) (begins_own mode item))
      (All-nil (HasItsOf mode item));
}

pub open_cut : (mode : Mode) (item : ItemView) → IsWithin mode item → IsCut mode item (item ∷ []) []
open_cut (Bounded bound) item fits = open_at bound item fits
open_cut Reduced item fits = open_pruned Reduced item
open_cut (BoundedOnce bound) item fits = open_at bound item fits
open_cut ReducedOnce item fits = open_pruned ReducedOnce item

unfoldable pub split_open : (mode : Mode) (item : ItemView) → IsItem item → IsWithin mode item →
    IsSplit mode item nothing (item ∷ []) []
split_open mode item runs fits = record {
  tried = [];
  own = All-nil (Contains (schedules_of mode item));
  sum = ap (λ (t : SummaryView). with_beyond t false) (sym (sum_of_none item.program));
  all = λ within. subst (IsPermutation (everything mode item)) (sym (append-nil _))
      (IsPermutation-refl (everything mode item));
  beyond = sym (or-false (goes_beyond mode item));
  below = All-cons (IsBelow item) item []
      (record { program = refl; item = runs; prefix = begins_itself item.prefix })
      (All-nil (IsBelow item));
  apart = λ v. omega arith;
  cut = open_cut mode item fits;
}

-- the order of the rest is free

permuted_at : (bound : ℕ) (xs ys deferred : List ItemView) → IsPermutation xs ys →
    IsCutAt bound xs deferred → IsCutAt bound ys deferred
permuted_at bound xs ys deferred moved h = record {
  within = All-permutation (λ r. preemptions r.program r.prefix ≤ bound) xs ys moved h.within;
  past = h.past;
}

permuted_pruned : (mode : Mode) (item : ItemView) (xs ys deferred : List ItemView) →
    IsPermutation xs ys → IsPruned mode item xs deferred → IsPruned mode item ys deferred
permuted_pruned mode item xs ys deferred moved h = record {
  none = h.none;
  schedules = All-permutation (HasItsOf mode item) xs ys moved h.schedules;
}

cut_permuted : (mode : Mode) (item : ItemView) (xs ys deferred : List ItemView) →
    IsPermutation xs ys → IsCut mode item xs deferred → IsCut mode item ys deferred
cut_permuted (Bounded bound) item xs ys deferred moved h = permuted_at bound xs ys deferred moved h
cut_permuted Reduced item xs ys deferred moved h =
    permuted_pruned Reduced item xs ys deferred moved h
cut_permuted (BoundedOnce bound) item xs ys deferred moved h =
    permuted_at bound xs ys deferred moved h
cut_permuted ReducedOnce item xs ys deferred moved h =
    permuted_pruned ReducedOnce item xs ys deferred moved h

pub split_permuted : (mode : Mode) (item : ItemView) (part : SummaryView)
    (xs ys deferred : List ItemView) → IsPermutation xs ys →
    IsSplit mode item part xs deferred → IsSplit mode item part ys deferred
split_permuted mode item part xs ys deferred moved h = record {
  tried = h.tried;
  own = h.own;
  sum = h.sum;
  all = λ fits. IsPermutation-trans _ _ _ (h.all fits)
      (IsPermutation-append_right h.tried _ _
      (flat_map-permutation (everything mode) (xs ++ deferred) (ys ++ deferred) both));
  beyond = h.beyond ∙ ap (λ b. part.beyond || b)
      (list_any-IsPermutation (goes_beyond mode) xs ys moved);
  below = All-permutation (IsBelow item) (xs ++ deferred) (ys ++ deferred) both h.below;
  apart = λ v. let old = h.apart v in
      let same = covers-permutation v (xs ++ deferred) (ys ++ deferred) both in
      omega (arith, old, same);
  cut = cut_permuted mode item xs ys deferred moved h.cut;
}
  where
    both : IsPermutation (xs ++ deferred) (ys ++ deferred)
    both = IsPermutation-append_left deferred xs ys moved

-- a walk of one of the rest is settled

pub below_further : (item i d : ItemView) → IsBelow item i → IsBelow i d → IsBelow item d
below_further item i d h k = record {
  program = k.program ∙ h.program;
  item = k.item;
  prefix = begins_further item.prefix i.prefix d.prefix h.prefix k.prefix;
}

pub first_within : (mode : Mode) (item i : ItemView) (b deferred : List ItemView) →
    IsCut mode item (i ∷ b) deferred → IsWithin mode i
first_within (Bounded bound) item i b deferred h =
    All-head (λ (r : ItemView). preemptions r.program r.prefix ≤ bound) i b h.within
first_within Reduced item i b deferred h = tt
first_within (BoundedOnce bound) item i b deferred h =
    All-head (λ (r : ItemView). preemptions r.program r.prefix ≤ bound) i b h.within
first_within ReducedOnce item i b deferred h = tt

further_at : (bound : ℕ) (i : ItemView) (b deferred rest more : List ItemView) →
    IsCutAt bound (i ∷ b) deferred → IsCutAt bound rest more →
    IsCutAt bound (rest ++ b) (deferred ++ more)
further_at bound i b deferred rest more old walk = record {
  within = All-append (λ r. preemptions r.program r.prefix ≤ bound) rest b walk.within
      (All-tail (λ r. preemptions r.program r.prefix ≤ bound) i b old.within);
  past = All-append (IsDeferred bound) deferred more old.past walk.past;
}

further_pruned : (mode : Mode) (item i : ItemView) (b deferred rest more : List ItemView) →
    All (IsBelow i) rest → IsPruned mode item (i ∷ b) deferred → IsPruned mode i rest more →
    IsPruned mode item (rest ++ b) (deferred ++ more)
further_pruned mode item i b deferred rest more below old walk = record {
  none = λ k. old.none k ++ walk.none k;
  schedules = All-append (HasItsOf mode item) rest b
      (λ k d l. walk.schedules k d l
      ∙ (ap (filter (begins_with (get_or rest k d).prefix))
      (All-head (HasItsOf mode item) i b old.schedules)
      ∙ filter_longer (begins_with i.prefix) (begins_with (get_or rest k d).prefix)
      (schedules_of mode item)
      (λ v. begins_further i.prefix (get_or rest k d).prefix v (below k d l).prefix)))
      (All-tail (HasItsOf mode item) i b old.schedules);
}

cut_further : (mode : Mode) (item i : ItemView) (b deferred rest more : List ItemView) →
    All (IsBelow i) rest → IsCut mode item (i ∷ b) deferred → IsCut mode i rest more →
    IsCut mode item (rest ++ b) (deferred ++ more)
cut_further (Bounded bound) item i b deferred rest more below old walk =
    further_at bound i b deferred rest more old walk
cut_further Reduced item i b deferred rest more below old walk =
    further_pruned Reduced item i b deferred rest more below old walk
cut_further (BoundedOnce bound) item i b deferred rest more below old walk =
    further_at bound i b deferred rest more old walk
cut_further ReducedOnce item i b deferred rest more below old walk =
    further_pruned ReducedOnce item i b deferred rest more below old walk

module _ (mode : Mode) (item i : ItemView) (f part : SummaryView)
    (b deferred rest more : List ItemView) (old : IsSplit mode item f (i ∷ b) deferred)
    (walk : IsSplit mode i part rest more) where
  here : IsBelow item i
  here = All-head (IsBelow item) i (b ++ deferred) old.below

  -- what the walk left takes the item's place
  moved : IsPermutation ((rest ++ more) ++ (b ++ deferred)) ((rest ++ b) ++ (deferred ++ more))
  moved = turned-permutation rest more b deferred

  -- of the item's schedules i has those that begin with its prefix
  own : All (Contains (schedules_of mode item)) (old.tried ++ walk.tried)
  own = All-append (Contains (schedules_of mode item)) old.tried walk.tried old.own
      (All-weaker (Contains (schedules_of mode i)) (Contains (schedules_of mode item))
      (λ v c. in_contains (schedules_of mode item) v (from_filter (begins_with i.prefix)
      (schedules_of mode item) v (subst (λ L. In L v) (All-head (HasItsOf mode item) i b
      (rest_has mode item f (i ∷ b) deferred old)) (contains_in (schedules_of mode i) v c))).0)
      walk.tried walk.own)

  sum : join f part
      ≡ with_beyond (sum_of item.program (old.tried ++ walk.tried)) (join f part).beyond
  sum =
      (λ k. join (old.sum k)
      ((walk.sum ∙ ap (λ p. with_beyond (sum_of p walk.tried) part.beyond) here.program) k))
      ∙ (sym (join-beyond item.program old.tried walk.tried f.beyond part.beyond)
      ∙ ap (with_beyond (sum_of item.program (old.tried ++ walk.tried)))
      (sym (join_beyond f part)))

  beyond : goes_beyond mode item
      ≡ ((join f part).beyond || list_any (goes_beyond mode) (rest ++ b))
  beyond =
      old.beyond
      ∙ (ap (λ x. f.beyond || x)
      (ap (λ x. x || list_any (goes_beyond mode) b) walk.beyond
      ∙ (or_assoc part.beyond (list_any (goes_beyond mode) rest) _
      ∙ ap (λ x. part.beyond || x) (sym (list_any-append (goes_beyond mode) rest b))))
      ∙ (sym (or_assoc f.beyond part.beyond _)
      ∙ ap (λ x. x || list_any (goes_beyond mode) (rest ++ b)) (sym (join_beyond f part))))

  split_first : IsSplit mode item (join f part) (rest ++ b) (deferred ++ more)
  split_first = record {
    tried = old.tried ++ walk.tried;
    own = own;
    sum = sum;
    all = λ within. placed-permutation (everything mode) _ _ old.tried walk.tried (rest ++ more)
        (b ++ deferred) _ (old.all within)
        (walk.all (first_within mode item i b deferred old.cut)) moved;
    beyond = beyond;
    below = All-permutation (IsBelow item) _ _ moved
        (All-append (IsBelow item) (rest ++ more) (b ++ deferred)
        (All-weaker (IsBelow i) (IsBelow item) (λ d k. below_further item i d here k)
        (rest ++ more) walk.below)
        (All-tail (IsBelow item) i (b ++ deferred) old.below));
    apart = λ v.
        let o = old.apart v in let w = walk.apart v in
        let c = covers-append v (rest ++ more) (b ++ deferred) in
        let same = covers-permutation v _ _ moved in
        omega (arith, o, w, c, same);
    cut = cut_further mode item i b deferred rest more
        (all_left (IsBelow i) rest more walk.below) old.cut walk.cut;
  }

-- a walk of an item of the rest makes a split of a split
pub split_further : (mode : Mode) (item i : ItemView) (f part : SummaryView)
    (a b deferred rest more : List ItemView) → IsSplit mode item f (a ++ i ∷ b) deferred →
    IsSplit mode i part rest more → IsSplit mode item (join f part) ((a ++ b) ++ rest)
    (deferred ++ more)
split_further mode item i f part a b deferred rest more old walk =
    split_permuted mode item (join f part) (rest ++ (a ++ b)) ((a ++ b) ++ rest) (deferred ++ more)
    (IsPermutation-append_comm rest (a ++ b))
    (split_first mode item i f part (a ++ b) deferred rest more
    (split_permuted mode item f (a ++ i ∷ b) (i ∷ (a ++ b)) deferred
    (IsPermutation-middle a i b) old) walk)

-- where the first of the rest of a walk is walked, what that left comes in its place
pub walked_further : (mode : Mode) (item c : ItemView) (a b : SummaryView)
    (rest deferred r e : List ItemView) →
    IsWalked (record { mode = mode; item = item; part = a; rest = c ∷ rest; deferred = deferred })
    →
    IsWalked (record { mode = mode; item = c; part = b; rest = r; deferred = e }) →
    IsWalked (record {
      mode = mode;
      item = item;
      part = join a b;
      rest = r ++ rest;
      deferred = deferred ++ e;
    })
unfolding split_first
walked_further mode item c a b rest deferred r e old walk = record {
  split = split_first mode item c a b rest deferred r e old.split walk.split;
  schedules =
      old.schedules
      ∙ (ap (λ L. old.split.tried ++ (L ++ flat_map (schedules_of mode) rest)) walk.schedules
      ∙ parts_apart (schedules_of mode) old.split.tried walk.split.tried r rest);
}

-- the next bound

-- what a mode at a bound says, with equal threads once or without

within_at : (once : Bool) (bound : ℕ) (i : ItemView) → preemptions i.program i.prefix ≤ bound →
    IsWithin (up_to once bound) i
within_at false bound i fits = fits
within_at true bound i fits = fits

from_cut : (once : Bool) (bound : ℕ) (item : ItemView) (rest deferred : List ItemView) →
    IsCut (up_to once bound) item rest deferred → IsCutAt bound rest deferred
from_cut false bound item rest deferred h = h
from_cut true bound item rest deferred h = h

to_cut : (once : Bool) (bound : ℕ) (item : ItemView) (rest deferred : List ItemView) →
    IsCutAt bound rest deferred → IsCut (up_to once bound) item rest deferred
to_cut false bound item rest deferred h = h
to_cut true bound item rest deferred h = h

all_is : (once : Bool) (bound : ℕ) →
    everything (up_to once (bound + 1)) ≡ everything (up_to once bound)
all_is false bound = refl
all_is true bound = refl

module _ (once : Bool) (bound : ℕ) (item : ItemView) where
  abbrev low : List ℕ → Bool
  low v = nat_le (preemptions item.program v) bound

  own_low : (v : List ℕ) → Contains (schedules_of (up_to once bound) item) v →
      Contains (everything (up_to once bound) item) v × (preemptions item.program v ≤ bound)
  own_low v c =
      let all = everything (up_to once bound) item in
      let m = from_filter low all v (contains_in _ v
      (subst (λ L. Contains L v) (own_is once bound item) c)) in
      (in_contains all v m.0, is_low (preemptions item.program v) m.1)
    where
      is_low : (n : ℕ) → nat_le n bound ≡ true → n ≤ bound
      is_low n e = grind (arith, nat_tests, e)

  low_own : (v : List ℕ) → Contains (everything (up_to once bound) item) v →
      preemptions item.program v ≤ bound → Contains (schedules_of (up_to once bound) item) v
  low_own v c le =
      let all = everything (up_to once bound) item in
      subst (λ L. Contains L v) (sym (own_is once bound item))
      (in_contains _ v (in_filter low all v (contains_in all v c) (is_low _ le)))
    where
      is_low : (n : ℕ) → n ≤ bound → nat_le n bound ≡ true
      is_low n l = grind (arith, nat_tests, l)

module _ (once : Bool) (bound : ℕ) (item : ItemView) where
  abbrev now : Mode
  now = up_to once bound

  abbrev next : Mode
  next = up_to once (bound + 1)

  few : (part : SummaryView) (rest deferred : List ItemView)
      (h : IsSplit now item part rest deferred) →
      All (λ v. preemptions item.program v ≤ bound) h.tried
  few part rest deferred h =
      All-weaker (Contains (schedules_of now item)) (λ v. preemptions item.program v ≤ bound)
      (λ v c. (own_low once bound item v c).1) h.tried h.own

  abbrev exceeds : List ℕ → Bool
  exceeds v = nat_lt (bound + 1) (preemptions item.program v)

  exceed_below : (ds : List ItemView) → All (IsBelow item) ds →
      list_any exceeds (flat_map (everything next) ds) ≡ list_any (goes_beyond next) ds
  exceed_below [] h = refl
  exceed_below (d ∷ ds) h =
      list_any-append exceeds (everything next d) _
      ∙ (λ k. (ap (λ (p : Program). list_any (λ v. nat_lt (bound + 1) (preemptions p v))
      (everything next d)) (sym (All-head (IsBelow item) d ds h).program)
      ∙ sym (beyond_is once (bound + 1) d)) k
      || exceed_below ds (All-tail (IsBelow item) d ds h) k)

  split_none : (part : SummaryView) (deferred : List ItemView) →
      preemptions item.program item.prefix ≤ bound → IsSplit now item part [] deferred →
      IsSplit next item (with_beyond part false) deferred []
  split_none part deferred fits h = record {
    tried = h.tried;
    own = All-weaker (Contains (schedules_of now item)) (Contains (schedules_of next item))
        (λ v c. let m = own_low once bound item v c in
        let le = m.1 in
        low_own once (bound + 1) item v
        (subst (λ (f : ItemView → List (List ℕ)). Contains (f item) v)
        (sym (all_is once bound)) m.0) (omega (arith, le))) h.tried h.own;
    sum = ap (λ (t : SummaryView). with_beyond t false) h.sum;
    all = λ within. rw (append-nil deferred) all;
    beyond = beyond_is once (bound + 1) item
        ∙ (list_any-IsPermutation exceeds _ _ all
        ∙ (list_any-append exceeds h.tried (flat_map (everything next) deferred)
        ∙ (λ k. list_any_none exceeds h.tried (λ j d l. over _ (few part [] deferred h j d l)) k
        || exceed_below deferred h.below k)));
    below = rw (append-nil deferred) h.below;
    apart = λ v. rw (append-nil deferred) (h.apart v);
    cut = to_cut once (bound + 1) item deferred [] (record {
      within = λ k d l. let e = (cut.past k d l).past in omega (arith, e);
      past = All-nil (IsDeferred (bound + 1));
    });
  }
    where
      cut : IsCutAt bound [] deferred
      cut = from_cut once bound item [] deferred h.cut

      all : IsPermutation (everything next item) (h.tried ++ flat_map (everything next) deferred)
      all = subst (λ (f : ItemView → List (List ℕ)). IsPermutation (f item)
          (h.tried ++ flat_map f deferred)) (sym (all_is once bound))
          (h.all (within_at once bound item fits))

      over : (n : ℕ) → n ≤ bound → nat_lt (bound + 1) n ≡ false
      over n le = grind (arith, nat_tests, le)

pub cut_at : (mode : Mode) (once : Bool) (bound : ℕ) (item : ItemView)
    (rest deferred : List ItemView) → mode ≡ up_to once bound →
    IsCut mode item rest deferred → IsCutAt bound rest deferred
cut_at mode once bound item rest deferred e h =
    from_cut once bound item rest deferred (subst (λ (m : Mode). IsCut m item rest deferred) e h)

-- where nothing is left, what is deferred is the rest at the next bound
pub split_next : (once : Bool) (bound : ℕ) (item : ItemView) (part : SummaryView)
    (rest deferred : List ItemView) → preemptions item.program item.prefix ≤ bound → rest ≡ [] →
    IsSplit (up_to once bound) item part rest deferred →
    IsSplit (up_to once (bound + 1)) item (with_beyond part false) deferred []
split_next once bound item part rest deferred fits none h =
    split_none once bound item part deferred fits
    (subst (λ is. IsSplit (up_to once bound) item part is deferred) none h)

-- what follows

pub split_kept : (mode : Mode) (item : ItemView) (part : SummaryView)
    (rest deferred : List ItemView) → IsSplit mode item part rest deferred → IsSummary part
split_kept mode item part rest deferred h =
    subst IsSummary (sym h.sum) (sum_kept item.program h.tried part.beyond)

-- where sleep sets prune nothing is deferred, and nothing is beyond a bound
pub pruned_none : (mode : Mode) (once : Bool) (item : ItemView) (rest deferred : List ItemView) →
    mode ≡ pruned once → IsCut mode item rest deferred → deferred ≡ []
pruned_none mode once item rest deferred e h =
    go once (subst (λ (m : Mode). IsCut m item rest deferred) e h)
  where
    go : (b : Bool) → IsCut (pruned b) item rest deferred → deferred ≡ []
    go false k = k.none
    go true k = k.none

pub pruned_within : (mode : Mode) (once : Bool) (item : ItemView) (part : SummaryView)
    (rest deferred : List ItemView) → mode ≡ pruned once →
    IsSplit mode item part rest deferred → part.beyond ≡ false
pruned_within mode once item part rest deferred e h =
    (or_parts part.beyond (list_any (goes_beyond mode) rest)
    (sym h.beyond ∙ (ap (λ (m : Mode). goes_beyond m item) e ∙ never once))).0
  where
    never : (b : Bool) → goes_beyond (pruned b) item ≡ false
    never false = refl
    never true = refl

-- those within the bound
module _ (once : Bool) (bound : ℕ) (item : ItemView) where
  abbrev its : ItemView → List (List ℕ)
  its = schedules_of (up_to once bound)

  lows : (ds : List ItemView) → All (IsBelow item) ds →
      filter (low once bound item) (flat_map (everything (up_to once bound)) ds)
      ≡ flat_map its ds
  lows [] h = refl
  lows (d ∷ ds) h =
      filter-append (low once bound item) (everything (up_to once bound) d) _
      ∙ (λ k. (ap (λ (p : Program). filter (λ v. nat_le (preemptions p v) bound)
      (everything (up_to once bound) d)) (sym (All-head (IsBelow item) d ds h).program)
      ∙ sym (own_is once bound d)) k ++ lows ds (All-tail (IsBelow item) d ds h) k)

  none_low : (ds : List ItemView) → All (IsDeferred bound) ds → flat_map its ds ≡ []
  none_low [] k = refl
  none_low (d ∷ ds) k =
      let e : preemptions d.program d.prefix ≡ bound + 1 = (All-head (IsDeferred bound) d ds k).past
      in λ j. bounded_none once bound d (omega (arith, e)) j
      ++ none_low ds (All-tail (IsDeferred bound) d ds k) j

  all_low : (tried : List (List ℕ)) → All (λ v. preemptions item.program v ≤ bound) tried →
      filter (low once bound item) tried ≡ tried
  all_low tried few =
      sym (filter_whole (low once bound item) tried (λ v m. is_low (preemptions item.program v)
      (All-contains (λ w. preemptions item.program w ≤ bound) tried v few
      (in_contains tried v m))))
    where
      is_low : (n : ℕ) → n ≤ bound → nat_le n bound ≡ true
      is_low n le = grind (arith, nat_tests, le)

  low_parts : (part : SummaryView) (rest deferred : List ItemView) →
      All (IsDeferred bound) deferred →
      (h : IsSplit (up_to once bound) item part rest deferred) →
      filter (low once bound item)
      (h.tried ++ flat_map (everything (up_to once bound)) (rest ++ deferred))
      ≡ h.tried ++ flat_map its rest
  low_parts part rest deferred past h =
      filter-append (low once bound item) h.tried
      (flat_map (everything (up_to once bound)) (rest ++ deferred))
      ∙ (λ k. all_low h.tried (few once bound item part rest deferred h) k
      ++ (lows (rest ++ deferred) h.below
      ∙ (flat_map-append its rest deferred
      ∙ (ap (λ L. flat_map its rest ++ L) (none_low deferred past)
      ∙ append-nil (flat_map its rest)))) k)

without_deferred : (mode : Mode) (item : ItemView) (tried : List (List ℕ))
    (rest deferred : List ItemView) → deferred ≡ [] →
    IsPermutation (schedules_of mode item)
    (tried ++ flat_map (schedules_of mode) (rest ++ deferred)) →
    IsPermutation (schedules_of mode item) (tried ++ flat_map (schedules_of mode) rest)
without_deferred mode item tried rest deferred none =
    subst (λ is. IsPermutation (schedules_of mode item) (tried ++ flat_map (schedules_of mode) is))
    (ap (λ is. rest ++ is) none ∙ append-nil rest)

-- the item's schedules are what was tried and those of the rest
pub split_moved : (mode : Mode) (item : ItemView) (part : SummaryView)
    (rest deferred : List ItemView) → IsWithin mode item →
    (h : IsSplit mode item part rest deferred) →
    IsPermutation (schedules_of mode item) (h.tried ++ flat_map (schedules_of mode) rest)
unfolding schedules_within
split_moved (Bounded bound) item part rest deferred fits h =
    subst (IsPermutation (schedules_within item.program item.prefix bound))
    (low_parts false bound item part rest deferred h.cut.past h)
    (filter-permutation (low false bound item) _ _ (h.all fits))
split_moved Reduced item part rest deferred fits h =
    without_deferred Reduced item h.tried rest deferred h.cut.none (h.all fits)
split_moved (BoundedOnce bound) item part rest deferred fits h =
    subst (IsPermutation (schedules_of (BoundedOnce bound) item))
    (low_parts true bound item part rest deferred h.cut.past h)
    (filter-permutation (low true bound item) _ _ (h.all fits))
split_moved ReducedOnce item part rest deferred fits h =
    without_deferred ReducedOnce item h.tried rest deferred h.cut.none (h.all fits)

module _ (mode : Mode) (item : ItemView) (part : SummaryView) (rest deferred : List ItemView)
    (fits : IsWithin mode item) (h : IsSplit mode item part rest deferred) where
  pub split_sum : item_sum mode item ≡ join part (item_sums mode rest)
  split_sum = joined_sum mode item part rest deferred h
      (split_moved mode item part rest deferred fits h)

  -- where nothing is left
  pub split_closed : rest ≡ [] → part ≡ item_sum mode item
  split_closed none =
      sym (split_sum ∙ (ap (λ is. join part (item_sums mode is)) none
      ∙ join_nothing part (split_kept mode item part rest deferred h)))

  -- the part is the sum of the item's schedules that lie under none of the rest
  pub split_part : part
      ≡ with_beyond (sum_of item.program (clear_of rest (schedules_of mode item))) part.beyond
  split_part =
      h.sum ∙ ap (λ (t : SummaryView). with_beyond t part.beyond)
      (sym (sum_of-permutation item.program _ _ (clear_part mode item h.tried rest
      (rest_has mode item part rest deferred h) (split_moved mode item part rest deferred fits
      h))))

-- each of all its schedules past the bound lies under one of the rest or of what is deferred
pub split_past : (once : Bool) (bound : ℕ) (item : ItemView) (part : SummaryView)
    (rest deferred : List ItemView) → IsSplit (up_to once bound) item part rest deferred →
    HasAllPast (up_to once bound) bound item (rest ++ deferred)
split_past once bound item part rest deferred h fits v c l =
    go (Contains-append_cases h.tried left v
    (Contains-permutation _ _ v (h.all (within_at once bound item fits)) c))
  where
    left : List (List ℕ)
    left = flat_map (everything (up_to once bound)) (rest ++ deferred)

    go : Contains h.tried v ⊎ Contains left v → is_under (rest ++ deferred) v ≡ true
    go (inl a) =
        let le = All-contains (λ w. preemptions item.program w ≤ bound) h.tried v
        (few once bound item part rest deferred h) a in
        absurd (omega (arith, le, l))
    go (inr b) = under_all (up_to once bound) (rest ++ deferred) v (contains_in left v b)

module _ (mode : Mode) (item : ItemView) (part : SummaryView) (rest deferred : List ItemView)
    (h : IsSplit mode item part rest deferred) where
  full_below : (ds : List ItemView) → All (IsBelow item) ds →
      sum_of item.program (flat_map (everything mode) ds) ≡ full_sums mode ds
  full_below [] b = sum_of_none item.program
  full_below (d ∷ ds) b =
      sum_of-append item.program (everything mode d) _
      ∙ (λ k. join (sum_of (sym (All-head (IsBelow item) d ds b).program k) (everything mode d))
      (full_below ds (All-tail (IsBelow item) d ds b) k))

  -- all schedules of an item, whatever their preemptions
  pub split_full : IsWithin mode item →
      full_sum mode item ≡ join (with_beyond part false) (full_sums mode (rest ++ deferred))
  split_full fits =
      sum_of-permutation item.program _ _ (h.all fits)
      ∙ (sum_of-append item.program h.tried _
      ∙ (λ k. join
      ((sum_of-beyond item.program h.tried ∙ ap (λ (t : SummaryView). with_beyond t false)
      (sym h.sum)) k) (full_below (rest ++ deferred) h.below k)))
