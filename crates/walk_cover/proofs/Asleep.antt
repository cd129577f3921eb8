-- Who sleeps along a prefix.
use Rattle.std.proofs.Common.{◌≡◌, ◌⊎◌, inl, inr, ℕ, ◌+◌, ◌<◌, Bool, true, false, not, List, []}
use Rattle.std.proofs.Common.{◌∷◌, ◌++◌, length, take, drop, get_or, refl, ap, ◌∙◌, sym, subst}
use Rattle.std.proofs.Common.{arith}
use Rattle.std.{specs.List.filter, proofs.lemmas.Bool.{and_parts, cases_order}}
use Rattle.std.proofs.lemmas.List.{drop_more, take_more, take_all, take-append-drop}
use Rattle.std.proofs.lemmas.List.Elements.{All-head}
use Rattle.guest_code.specs.Program.{Program}
use Rattle.semantics.specs.{Ends.is_terminal, Machine.{Snapshot, start, step, is_enabled}}
use Rattle.semantics.specs.{Mask.{has, no_threads, mask_of}, Reachable.IsOf, Waiters.In}
use Rattle.semantics.specs.declared.mask.Mask.{Mask}
use Rattle.semantics.proofs.ListMembers.{in_filter, from_flat_map, from_map, from_filter}
use Rattle.semantics.proofs.{StepsKeepStates.step_is_of, TerminalStates.is_terminal-some}
use Rattle.semantics_schedules.specs.Schedules.{runs, state_after, begins_with}
use Rattle.semantics_schedules.specs.Sleep.{next_sleep_set}
use Rattle.semantics_schedules.proofs.ReducedSchedules.{never_before_itself}
use Rattle.semantics_schedules.proofs.SchedulesUnderPrefix.{begins_longer, begins_further, smaller_first}
use Rattle.semantics_schedules.proofs.UnfoldingUnderPrefix.{state_after-push}
use Rattle.walk_items.specs.Children.{child_of, children, next_steps, is_kept_step}
use Rattle.walk_items.specs.Items.{ItemView, IsItem, item_at, root_of, state_of, schedules_of}
use Rattle.walk_items.specs.Walks.{IsBelow, HasItsOf}
use Rattle.walk_items.specs.declared.mode.Mode.{Mode, TheVariants.{Bounded, Reduced}}
use Rattle.walk_items.proofs.Children.{begins_own, child_below, children_schedules}
use Rattle.walk_items.proofs.Filters.{filter_same, filter_none}
use Rattle.walk_items.proofs.{Reduced.child_keeps, Splits.below_further, WalkedItems.bounded_has}
use Rattle.walk_cover.specs.{Covers.plain, Under.{IsUnder, HasNoneUnder, IsAsleepAfter}}
use Rattle.walk_cover.proofs.Covers.{self_cover, has_further}

-- the item of all schedules, and at a bound that of a prefix

pub root_under : (p : Program) → IsUnder Reduced p [] (root_of p)
root_under p =
    let whole = self_cover Reduced (root_of p) refl in
    record {
      is = refl;
      below = All-head (IsBelow (root_of p)) (root_of p) [] whole.below;
      own = All-head (HasItsOf Reduced (root_of p)) (root_of p) [] whole.own;
    }

pub none_under : (i : ItemView) → i.prefix ≡ [] → i.mask ≡ no_threads →
    IsUnder Reduced i.program i.prefix i
none_under i none mask =
    subst (λ (r : ItemView). IsUnder Reduced i.program r.prefix r)
    (λ k. record { program = i.program; prefix = sym none k; mask = sym mask k })
    (root_under i.program)

pub bounded_under : (mode : Mode) (bound : ℕ) (p : Program) (prefix : List ℕ) (i : ItemView) →
    plain mode ≡ Bounded bound → i ≡ item_at p prefix → IsItem i → IsUnder mode p prefix i
bounded_under mode bound p prefix i plainly is h =
    let b : IsBelow (root_of p) i = record {
      program = ap (λ (r : ItemView). r.program) is;
      item = h;
      prefix = refl;
    } in
    record {
      is = ap (λ (r : ItemView). r.prefix) is;
      below = b;
      own = subst (λ m. HasItsOf m (root_of p) i) (sym plainly) (bounded_has bound (root_of p) i b);
    }

-- the item after the first steps of a schedule
abbrev pub item_after : Program → List ℕ → Mask → ItemView
item_after p x m = record { program = p; prefix = x; mask = m }

-- a schedule of which some steps were taken, and who sleeps then
pub record IsTaken (p : Program) (w : List ℕ) (k : ℕ) (s : Snapshot) (m : Mask) : Type 0 where
  pub of : IsOf p s
  pub state : s ≡ state_after p (start p) (take k w)
  pub rest : runs p s (drop k w) ≡ true
  pub asleep : IsAsleepAfter p (take k w) m

pub taken_none : (p : Program) (w : List ℕ) (s : Snapshot) (m : Mask) → s ≡ start p → IsOf p s →
    m ≡ no_threads → runs p (start p) w ≡ true → IsTaken p w 0 s m
taken_none p w s m state of mask h = record {
  of = of;
  state = state;
  rest = subst (λ q. runs p q w ≡ true) (sym state) h;
  asleep = subst (IsAsleepAfter p []) (sym mask) (root_under p);
}

pub taken_enabled : (p : Program) (w : List ℕ) (k : ℕ) (s : Snapshot) (m : Mask) (t : ℕ) →
    IsTaken p w k s m → k < length w → t ≡ get_or w k t → is_enabled p s t ≡ true
taken_enabled p w k s m t h inside is =
    (and_parts (is_enabled p s t) (runs p (step p s t) (drop (k + 1) w))
    (subst (λ u. runs p s (u ∷ drop (k + 1) w) ≡ true) (sym is)
    (subst (λ v. runs p s v ≡ true) (drop_more w k t inside) h.rest))).0

pub taken_more : (p : Program) (w : List ℕ) (k : ℕ) (s : Snapshot) (m n : Mask) (t : ℕ) →
    IsTaken p w k s m → k < length w → t ≡ get_or w k t → has m t ≡ false →
    n ≡ mask_of (next_sleep_set p s (has m) t) → IsTaken p w (k + 1) (step p s t) n
taken_more p w k s m n t h inside is awake next = record {
  of = step_is_of p s t h.of enabled;
  state = ap (λ q. step p q t) h.state
      ∙ (sym (state_after-push p (start p) (take k w) t)
      ∙ ap (state_after p (start p)) (sym longer));
  rest = (and_parts (is_enabled p s t) (runs p (step p s t) (drop (k + 1) w))
      (subst (λ u. runs p s (u ∷ drop (k + 1) w) ≡ true) (sym is)
      (subst (λ v. runs p s v ≡ true) (drop_more w k t inside) h.rest))).1;
  asleep = subst (λ (x : List ℕ). IsAsleepAfter p x n) (sym longer)
      (subst (IsAsleepAfter p (take k w ++ t ∷ [])) (sym mask) (record {
        is = refl;
        below = below_further (root_of p) i (child_of Reduced i t) h.asleep.below
            (child_below Reduced i t h.asleep.below.item here);
        own = has_further Reduced (root_of p) i (child_of Reduced i t)
            (child_below Reduced i t h.asleep.below.item here) h.asleep.own
            (child_keeps i t h.asleep.below.item (subst (IsOf p) h.state h.of) here awake);
      }));
}
  where
    i : ItemView
    i = item_after p (take k w) m

    enabled : is_enabled p s t ≡ true
    enabled = taken_enabled p w k s m t h inside is

    here : is_enabled p (state_of i) t ≡ true
    here = subst (λ q. is_enabled p q t ≡ true) h.state enabled

    longer : take (k + 1) w ≡ take k w ++ t ∷ []
    longer = take_more w k t inside ∙ ap (λ u. take k w ++ u ∷ []) (sym is)

    mask : n ≡ mask_of (next_sleep_set p (state_of i) (has m) t)
    mask = next ∙ ap (λ q. mask_of (next_sleep_set p q (has m) t)) h.state

pub taken_all : (p : Program) (w : List ℕ) (k : ℕ) (s : Snapshot) (m : Mask) →
    IsTaken p w k s m → length w ≡ k → IsAsleepAfter p w m
taken_all p w k s m h e =
    subst (λ x. IsAsleepAfter p x m) (take_all k w (omega (arith, e))) h.asleep

-- a step of a thread that sleeps

one_step : (x v : List ℕ) (t u : ℕ) → begins_with (x ++ t ∷ []) v ≡ true →
    begins_with (x ++ u ∷ []) v ≡ true → t ≡ u
one_step x v t u b c = go (cases_order t u)
  where
    go : (t ≡ u) ⊎ ((t < u) ⊎ (u < t)) → t ≡ u
    go (inl e) = e
    go (inr (inl l)) =
        let before = smaller_first x v v t u l b c in
        let never = never_before_itself v in absurd (cc)
    go (inr (inr l)) =
        let before = smaller_first x v v u t l c b in
        let never = never_before_itself v in absurd (cc)

none_kept : (i : ItemView) (t : ℕ) (v : List ℕ) → IsItem i → IsOf i.program (state_of i) →
    is_enabled i.program (state_of i) t ≡ true → has i.mask t ≡ true →
    In (schedules_of Reduced i) v → begins_with (i.prefix ++ t ∷ []) v ≡ true → true ≡ false
none_kept i t v h of on asleep m b =
    let more : is_terminal i.program (state_of i) ≡ false =
    is_terminal-some i.program (state_of i) t on in
    let part = from_flat_map (schedules_of Reduced) (children Reduced i) v
    (subst (λ L. In L v) (children_schedules Reduced i h of more) m) in
    let child = from_map (child_of Reduced i)
    (filter (is_kept_step Reduced i) (next_steps i)) part.0 part.1 in
    let awake : not (has i.mask child.0) ≡ true =
    (from_filter (is_kept_step Reduced i) (next_steps i) child.0 child.1).1 in
    let begun : begins_with (i.prefix ++ child.0 ∷ []) v ≡ true =
    subst (λ (r : ItemView). begins_with r.prefix v ≡ true) (sym child.2)
    (begins_own Reduced part.0 v part.2) in
    let same : t ≡ child.0 = one_step i.prefix v t child.0 b begun in
    sym awake ∙ ap not (ap (has i.mask) (sym same) ∙ asleep)

pub taken_asleep : (p : Program) (w : List ℕ) (k : ℕ) (s : Snapshot) (m : Mask) (t : ℕ) →
    IsTaken p w k s m → k < length w → t ≡ get_or w k t → has m t ≡ true →
    HasNoneUnder Reduced p w
taken_asleep p w k s m t h inside is asleep =
    filter_same (begins_with w) (λ v. false) all (λ v n. off v n (begins_with w v) refl)
    ∙ filter_none all
  where
    all : List (List ℕ)
    all = schedules_of Reduced (root_of p)

    i : ItemView
    i = item_after p (take k w) m

    enabled : is_enabled p (state_of i) t ≡ true
    enabled = subst (λ q. is_enabled p q t ≡ true) h.state
        (taken_enabled p w k s m t h inside is)

    longer : take (k + 1) w ≡ take k w ++ t ∷ []
    longer = take_more w k t inside ∙ ap (λ u. take k w ++ u ∷ []) (sym is)

    begun : (n : ℕ) → begins_with (take n w) w ≡ true
    begun n = subst (λ x. begins_with (take n w) x ≡ true) (take-append-drop n w)
        (begins_longer (take n w) (drop n w))

    off : (v : List ℕ) → In all v → (b : Bool) → begins_with w v ≡ b → begins_with w v ≡ false
    off v n false e = e
    off v n true e =
        let short = begins_further (take k w) w v (begun k) e in
        let step = subst (λ x. begins_with x v ≡ true) longer
        (begins_further (take (k + 1) w) w v (begun (k + 1)) e) in
        let kept : In (schedules_of Reduced i) v =
        subst (λ L. In L v) (sym h.asleep.own)
        (in_filter (begins_with (take k w)) all v n short) in
        let never : true ≡ false =
        none_kept i t v h.asleep.below.item (subst (IsOf p) h.state h.of) enabled asleep kept
        step in
        absurd (cc)
