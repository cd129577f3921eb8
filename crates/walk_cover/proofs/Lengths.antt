-- What the prefixes of a length are: whatever the bound, schedules cut short; where all are
-- complete, all schedules; and they rise.
use Rattle.std.proofs.Common.{◌≡◌, inl, inr, ℕ, zero, suc, ◌<◌, ◌≤◌, Bool, true, false, cond, ◌&&◌}
use Rattle.std.proofs.Common.{List, [], ◌∷◌, ◌++◌, length, map, refl, ap, ◌∙◌, sym, subst, arith}
use Rattle.std.{specs.List.{All, filter, flat_map}, proofs.lemmas.Grind.flat_map-append}
use Rattle.std.proofs.lemmas.List.{append-nil, map-append}
use Rattle.std.proofs.lemmas.List.Elements.{All-head, All-tail, All-weaker, All-contains}
use Rattle.std.proofs.lemmas.List.Folds.{flat_map-map}
use Rattle.guest_code.specs.Program.{Program, IsWellFormed}
use Rattle.semantics.specs.Ends.{enabled, is_terminal, is_empty}
use Rattle.semantics.specs.{Machine.{Snapshot, start, step, is_enabled}, Waiters.In, Work.up_from}
use Rattle.semantics.proofs.ListMembers.{in_contains, in_either, from_map, from_filter, from_flat_map}
use Rattle.semantics_schedules.specs.Rising.{IsRising}
use Rattle.semantics_schedules.specs.Schedules.{state_after, before, or_complete, schedules_cut_at}
use Rattle.semantics_schedules.specs.Schedules.{schedules_under, begins_with}
use Rattle.semantics_schedules.proofs.CompleteSchedulesRise.{Rises, rising}
use Rattle.semantics_schedules.proofs.ReducedSchedules.{precedes_before}
use Rattle.semantics_schedules.proofs.SchedulesUnderPrefix.{begins_further, begins_itself, smaller_first}
use Rattle.semantics_schedules.proofs.SleepSets.{Before}
use Rattle.semantics_schedules.proofs.UnfoldingUnderPrefix.{schedules_under-more, schedules_under-terminal}
use Rattle.walk_items.specs.Children.{child_of, children_of, next_steps}
use Rattle.walk_items.specs.Items.{ItemView, IsItem, root_of, state_of, everything}
use Rattle.walk_items.specs.{Walks.{IsBelow, HasItsOf}, declared.mode.Mode.Mode}
use Rattle.walk_items.specs.declared.mode.Mode.TheVariants.{Bounded, Reduced}
use Rattle.walk_items.proofs.{Children.children_schedules, Filters.{filter_all, filter_twice}}
use Rattle.walk_items.proofs.{ItemsWalked.leaf_schedules, WalkedItems.bounded_has}
use Rattle.walk_cover.specs.Covers.{IsCover, plain}
use Rattle.walk_cover.specs.Prefixes.{is_entered, longer, further, prefixes_of, IsComplete}
use Rattle.walk_cover.proofs.{Covers.{below_is_of, further_cover, prefixes_cover}, Plain.{by_plain, longer_plain}}

-- the bound

pub same_prefixes : (a b : ℕ) (p : Program) (n : ℕ) →
    prefixes_of (Bounded a) p n ≡ prefixes_of (Bounded b) p n
same_prefixes a b p zero = refl
same_prefixes a b p (suc n) = ap (flat_map (further (Bounded a))) (same_prefixes a b p n)

pub same_cover : (a b : ℕ) (item : ItemView) (items : List ItemView) →
    IsCover (Bounded a) item items → IsCover (Bounded b) item items
same_cover a b item items h = record {
  below = h.below;
  own = All-weaker (IsBelow item) (HasItsOf (Bounded b) item) (λ r d. bounded_has b item r d) items
      h.below;
  once = h.once;
}

-- a schedule that is cut short, with a step more

abbrev one_more : Program → Snapshot → List ℕ → List (List ℕ)
one_more p s w =
    cond (is_terminal p (state_after p s w)) (w ∷ [])
    (map (λ t. w ++ t ∷ []) (enabled p (state_after p s w)))

-- these schedules after a step
after_step : (p : Program) (s : Snapshot) (t : ℕ) (L : List (List ℕ)) →
    before t (flat_map (one_more p (step p s t)) L) ≡ flat_map (one_more p s) (before t L)
after_step p s t [] = refl
after_step p s t (w ∷ L) =
    map-append (λ v. t ∷ v) (one_more p (step p s t) w) (flat_map (one_more p (step p s t)) L)
    ∙ (λ k. one (is_terminal p (state_after p (step p s t) w)) k ++ after_step p s t L k)
  where
    moved : (ts : List ℕ) →
        before t (map (λ u. w ++ u ∷ []) ts) ≡ map (λ u. (t ∷ w) ++ u ∷ []) ts
    moved [] = refl
    moved (u ∷ us) = ap (λ K. (t ∷ w ++ u ∷ []) ∷ K) (moved us)

    one : (b : Bool) → before t (cond b (w ∷ [])
        (map (λ u. w ++ u ∷ []) (enabled p (state_after p (step p s t) w))))
        ≡ cond b ((t ∷ w) ∷ [])
        (map (λ u. (t ∷ w) ++ u ∷ []) (enabled p (state_after p (step p s t) w)))
    one true = refl
    one false = moved (enabled p (state_after p (step p s t) w))

singles : (ts : List ℕ) → flat_map (λ t. (t ∷ []) ∷ []) ts ≡ map (λ t. t ∷ []) ts
singles [] = refl
singles (t ∷ ts) = ap (λ K. (t ∷ []) ∷ K) (singles ts)

pub cut_more : (n : ℕ) (p : Program) (s : Snapshot) →
    schedules_cut_at (suc n) p s ≡ flat_map (one_more p s) (schedules_cut_at n p s)
unfolding is_terminal
cut_more zero p s = go (enabled p s)
  where
    go : (ts : List ℕ) → or_complete ts (flat_map (λ t. (t ∷ []) ∷ []) ts)
        ≡ cond (is_empty ts) ([] ∷ []) (map (λ t. t ∷ []) ts) ++ []
    go [] = refl
    go (t ∷ ts) = ap (λ K. (t ∷ []) ∷ K) (singles ts ∙ sym (append-nil (map (λ u. u ∷ []) ts)))
cut_more (suc n) p s = go (enabled p s) refl (λ t. cut_more n p (step p s t))
  where
    each : ((t : ℕ) → schedules_cut_at (suc n) p (step p s t)
        ≡ flat_map (one_more p (step p s t)) (schedules_cut_at n p (step p s t))) →
        (ts : List ℕ) → flat_map (λ t. before t (schedules_cut_at (suc n) p (step p s t))) ts
        ≡ flat_map (one_more p s)
        (flat_map (λ t. before t (schedules_cut_at n p (step p s t))) ts)
    each h [] = refl
    each h (t ∷ ts) =
        (λ k. (ap (before t) (h t) ∙ after_step p s t (schedules_cut_at n p (step p s t))) k
        ++ each h ts k)
        ∙ sym (flat_map-append (one_more p s) (before t (schedules_cut_at n p (step p s t)))
        (flat_map (λ u. before u (schedules_cut_at n p (step p s u))) ts))

    go : (ts : List ℕ) → enabled p s ≡ ts →
        ((t : ℕ) → schedules_cut_at (suc n) p (step p s t)
        ≡ flat_map (one_more p (step p s t)) (schedules_cut_at n p (step p s t))) →
        or_complete ts (flat_map (λ t. before t (schedules_cut_at (suc n) p (step p s t))) ts)
        ≡ flat_map (one_more p s)
        (or_complete ts (flat_map (λ t. before t (schedules_cut_at n p (step p s t))) ts))
    go [] e h = λ k. cond (is_empty (sym e k)) ([] ∷ []) (map (λ t. t ∷ []) (enabled p s)) ++ []
    go (t ∷ ts) e h = each h (t ∷ ts)

-- the prefixes of what an item goes on to
further_prefixes : (bound : ℕ) (i : ItemView) →
    map (λ r. r.prefix) (further (Bounded bound) i)
    ≡ one_more i.program (start i.program) i.prefix
further_prefixes bound i = go (is_terminal i.program (state_of i))
  where
    steps : (ts : List ℕ) →
        map (λ r. r.prefix) (children_of (Bounded bound) i (filter (λ t. true) ts))
        ≡ map (λ t. i.prefix ++ t ∷ []) ts
    steps [] = refl
    steps (t ∷ ts) = ap (λ K. (i.prefix ++ t ∷ []) ∷ K) (steps ts)

    go : (b : Bool) →
        map (λ r. r.prefix) (cond b (i ∷ []) (longer (Bounded bound) i))
        ≡ cond b (i.prefix ∷ []) (map (λ t. i.prefix ++ t ∷ []) (next_steps i))
    go true = refl
    go false = steps (next_steps i)

further_all : (bound : ℕ) (p : Program) (items : List ItemView) →
    All (λ r. r.program ≡ p) items →
    map (λ r. r.prefix) (flat_map (further (Bounded bound)) items)
    ≡ flat_map (one_more p (start p)) (map (λ r. r.prefix) items)
further_all bound p [] h = refl
further_all bound p (i ∷ is) h =
    map-append (λ r. r.prefix) (further (Bounded bound) i) (flat_map (further (Bounded bound)) is)
    ∙ (λ k. (further_prefixes bound i
    ∙ ap (λ (q : Program). one_more q (start q) i.prefix)
    (All-head (λ (r : ItemView). r.program ≡ p) i is h)) k
    ++ further_all bound p is (All-tail (λ (r : ItemView). r.program ≡ p) i is h) k)

pub prefixes_cut : (bound : ℕ) (p : Program) (n : ℕ) → IsWellFormed p →
    map (λ i. i.prefix) (prefixes_of (Bounded bound) p n) ≡ schedules_cut_at n p (start p)
prefixes_cut bound p zero fine = refl
prefixes_cut bound p (suc n) fine =
    further_all bound p (prefixes_of (Bounded bound) p n)
    (All-weaker (IsBelow (root_of p)) (λ (r : ItemView). r.program ≡ p) (λ r b. b.program)
    (prefixes_of (Bounded bound) p n) (prefixes_cover (Bounded bound) p n fine).below)
    ∙ (ap (flat_map (one_more p (start p))) (prefixes_cut bound p n fine)
    ∙ sym (cut_more n p (start p)))

-- all schedules, in their order

further_schedules : (mode : Mode) (p : Program) (i : ItemView) → IsWellFormed p →
    IsBelow (root_of p) i →
    everything (plain mode) i ≡ flat_map (everything (plain mode)) (further mode i)
further_schedules mode p i fine b = go (is_terminal i.program (state_of i)) refl
  where
    go : (over : Bool) → is_terminal i.program (state_of i) ≡ over →
        everything (plain mode) i
        ≡ flat_map (everything (plain mode)) (cond over (i ∷ []) (longer mode i))
    go true e = sym (append-nil (everything (plain mode) i))
    go false e =
        by_plain (λ m. everything m i ≡ flat_map (everything m) (longer m i))
        (λ bound. schedules_under-more i.program i.prefix b.item e
        ∙ (ap (flat_map (λ t. schedules_under i.program (i.prefix ++ t ∷ [])))
        (sym (filter_all (next_steps i)))
        ∙ sym (flat_map-map (everything (Bounded bound)) (child_of (Bounded bound) i)
        (filter (λ t. true) (next_steps i)))))
        (children_schedules Reduced i b.item (below_is_of p i fine b) e) mode
        ∙ ap (flat_map (everything (plain mode))) (longer_plain mode i)

parts_schedules : (mode : Mode) (p : Program) (items : List ItemView) → IsWellFormed p →
    All (IsBelow (root_of p)) items →
    flat_map (everything (plain mode)) items
    ≡ flat_map (everything (plain mode)) (flat_map (further mode) items)
parts_schedules mode p [] fine b = refl
parts_schedules mode p (i ∷ is) fine b =
    (λ k. further_schedules mode p i fine (All-head (IsBelow (root_of p)) i is b) k
    ++ parts_schedules mode p is fine (All-tail (IsBelow (root_of p)) i is b) k)
    ∙ sym (flat_map-append (everything (plain mode)) (further mode i) (flat_map (further mode) is))

all_in_order : (mode : Mode) (p : Program) (n : ℕ) → IsWellFormed p →
    everything (plain mode) (root_of p)
    ≡ flat_map (everything (plain mode)) (prefixes_of mode p n)
all_in_order mode p zero fine = sym (append-nil (everything (plain mode) (root_of p)))
all_in_order mode p (suc n) fine =
    all_in_order mode p n fine
    ∙ parts_schedules mode p (prefixes_of mode p n) fine (prefixes_cover mode p n fine).below

pub complete_schedule : (mode : Mode) (i : ItemView) → IsItem i → IsComplete i →
    everything (plain mode) i ≡ i.prefix ∷ []
complete_schedule mode i h over =
    by_plain (λ m. everything m i ≡ i.prefix ∷ [])
    (λ bound. schedules_under-terminal i.program i.prefix h over)
    (leaf_schedules Reduced i h over tt) mode

complete_all : (mode : Mode) (p : Program) (items : List ItemView) →
    All (IsBelow (root_of p)) items → All IsComplete items →
    flat_map (everything (plain mode)) items ≡ map (λ i. i.prefix) items
complete_all mode p [] b h = refl
complete_all mode p (i ∷ is) b h =
    λ k. complete_schedule mode i (All-head (IsBelow (root_of p)) i is b).item
    (All-head IsComplete i is h) k
    ++ complete_all mode p is (All-tail (IsBelow (root_of p)) i is b)
    (All-tail IsComplete i is h) k

pub all_listed : (mode : Mode) (p : Program) (n : ℕ) → IsWellFormed p →
    All IsComplete (prefixes_of mode p n) →
    map (λ i. i.prefix) (prefixes_of mode p n) ≡ everything (plain mode) (root_of p)
all_listed mode p n fine h =
    sym (all_in_order mode p n fine
    ∙ complete_all mode p (prefixes_of mode p n) (prefixes_cover mode p n fine).below h)

-- the order

-- the two part: the first goes on with a smaller thread
record Parts (v w : List ℕ) : Type 0 where
  stem : List ℕ
  low : ℕ
  high : ℕ
  less : low < high
  first : begins_with (stem ++ low ∷ []) v ≡ true
  second : begins_with (stem ++ high ∷ []) w ≡ true

parts_further : (v w x y : List ℕ) → Parts v w → begins_with v x ≡ true →
    begins_with w y ≡ true → Parts x y
parts_further v w x y h b c = record {
  stem = h.stem;
  low = h.low;
  high = h.high;
  less = h.less;
  first = begins_further (h.stem ++ h.low ∷ []) v x h.first b;
  second = begins_further (h.stem ++ h.high ∷ []) w y h.second c;
}

-- each parts from all later ones
abbrev Apart : List ItemView → Type 0
Apart [] = Unit {0}
Apart (i ∷ is) = ((r : ItemView) → In is r → Parts i.prefix r.prefix) × Apart is

apart_append : (K L : List ItemView) → Apart K → Apart L →
    ((i r : ItemView) → In K i → In L r → Parts i.prefix r.prefix) → Apart (K ++ L)
apart_append [] L k l low = l
apart_append (i ∷ K) L k l low = (
  λ r m. elim (in_either K L r m) [ inl a ↦ k.0 r a | inr b ↦ low i r (inl refl) b ],
  apart_append K L k.1 l (λ j r a b. low j r (inr a) b),
)

from_up : (first n t : ℕ) → In (up_from first n) t → first ≤ t
from_up first zero t m = absurd m
from_up first (suc n) t (inl e) = omega (arith, e)
from_up first (suc n) t (inr m) =
    let later = from_up (suc first) n t m in omega (arith, later)

steps_apart : (mode : Mode) (i : ItemView) (test : ℕ → Bool) (first n : ℕ) →
    Apart (children_of mode i (filter test (up_from first n)))
steps_apart mode i test first zero = tt
steps_apart mode i test first (suc n) = go (test first) (steps_apart mode i test (suc first) n)
  where
    rest : List ℕ
    rest = filter test (up_from (suc first) n)

    later : (r : ItemView) → In (children_of mode i rest) r →
        Parts (i.prefix ++ first ∷ []) r.prefix
    later r m =
        let from = from_map (child_of mode i) rest r m in
        let low = from_up (suc first) n from.0
        (from_filter test (up_from (suc first) n) from.0 from.1).0 in
        subst (λ (x : ItemView). Parts (i.prefix ++ first ∷ []) x.prefix) from.2 (record {
          stem = i.prefix;
          low = first;
          high = from.0;
          less = low;
          first = begins_itself (i.prefix ++ first ∷ []);
          second = begins_itself (i.prefix ++ from.0 ∷ []);
        })

    go : (b : Bool) → Apart (children_of mode i rest) →
        Apart (children_of mode i (cond b (first ∷ rest) rest))
    go true h = (later, h)
    go false h = h

further_apart : (mode : Mode) (i : ItemView) → Apart (further mode i)
unfolding enabled
further_apart mode i = go (is_terminal i.program (state_of i))
  where
    go : (b : Bool) → Apart (cond b (i ∷ []) (longer mode i))
    go true = (λ r m. absurd m, tt)
    go false = subst (λ ts. Apart (children_of mode i ts))
        (sym (filter_twice (is_entered mode i) (is_enabled i.program (state_of i))
        (up_from 0 (length (state_of i).threads))))
        (steps_apart mode i (λ t. is_enabled i.program (state_of i) t && is_entered mode i t) 0
        (length (state_of i).threads))

-- what an item goes on to begins with it
begins_item : (mode : Mode) (p : Program) (i r : ItemView) → IsWellFormed p →
    IsBelow (root_of p) i → In (further mode i) r → begins_with i.prefix r.prefix ≡ true
begins_item mode p i r fine b m =
    (All-contains (IsBelow i) (further mode i) r
    (further_cover mode i b.item (below_is_of p i fine b)).below
    (in_contains (further mode i) r m)).prefix

all_apart : (mode : Mode) (p : Program) (items : List ItemView) → IsWellFormed p →
    All (IsBelow (root_of p)) items → Apart items → Apart (flat_map (further mode) items)
all_apart mode p [] fine b h = tt
all_apart mode p (i ∷ is) fine b h =
    apart_append (further mode i) (flat_map (further mode) is) (further_apart mode i)
    (all_apart mode p is fine later h.1)
    (λ j r m n. let from = from_flat_map (further mode) is r n in
    parts_further i.prefix from.0.prefix j.prefix r.prefix (h.0 from.0 from.1)
    (begins_item mode p i j fine (All-head (IsBelow (root_of p)) i is b) m)
    (begins_item mode p from.0 r fine (All-contains (IsBelow (root_of p)) is from.0 later
    (in_contains is from.0 from.1)) from.2))
  where
    later : All (IsBelow (root_of p)) is
    later = All-tail (IsBelow (root_of p)) i is b

prefixes_apart : (mode : Mode) (p : Program) (n : ℕ) → IsWellFormed p →
    Apart (prefixes_of mode p n)
prefixes_apart mode p zero fine = (λ r m. absurd m, tt)
prefixes_apart mode p (suc n) fine =
    all_apart mode p (prefixes_of mode p n) fine (prefixes_cover mode p n fine).below
    (prefixes_apart mode p n fine)

rises : (items : List ItemView) → Apart items → Rises (map (λ i. i.prefix) items)
rises [] h = tt
rises (i ∷ is) h = (
  λ w m. let from = from_map (λ (r : ItemView). r.prefix) is w m in
      let parts = h.0 from.0 from.1 in
      subst (λ v. Before i.prefix v) from.2
      (precedes_before i.prefix from.0.prefix (smaller_first parts.stem i.prefix from.0.prefix
      parts.low parts.high parts.less parts.first parts.second)),
  rises is h.1,
)

pub prefixes_rise : (mode : Mode) (p : Program) (n : ℕ) → IsWellFormed p →
    IsRising (map (λ i. i.prefix) (prefixes_of mode p n))
prefixes_rise mode p n fine =
    rising (map (λ i. i.prefix) (prefixes_of mode p n))
    (rises (prefixes_of mode p n) (prefixes_apart mode p n fine))
