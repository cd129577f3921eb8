-- The way from the program to a cover by listed prefixes, and what is wrong where there is none.
use Rattle.std.proofs.Common.{◌≡◌, inl, inr, ℕ, ◌+◌, ◌<◌, ◌≤◌, Bool, true, false, cond, List, []}
use Rattle.std.proofs.Common.{◌∷◌, ◌++◌, map, take, refl, ap, ◌∙◌, sym, subst, arith, append_assoc}
use Rattle.std.proofs.Common.{IsPermutation}
use Rattle.std.{specs.List.{All, Contains, filter}, proofs.lemmas.Bool.Decides.nat_tests}
use Rattle.std.proofs.lemmas.List.{append-nil, take-append-drop}
use Rattle.std.proofs.lemmas.List.Elements.{All-nil, All-cons, All-push}
use Rattle.std.proofs.lemmas.List.Sorted.{IsPermutation-refl, IsPermutation-pop_more}
use Rattle.std.proofs.lemmas.List.Sorted.{IsPermutation-to_front, All-permutation}
use Rattle.guest_code.specs.Program.{Program, IsWellFormed}
use Rattle.semantics.specs.{Ends.is_terminal, Machine.start, Mask.one_if, Waiters.In}
use Rattle.semantics.proofs.ListMembers.{in_contains, contains_in, in_left, in_right, in_either}
use Rattle.semantics.proofs.ListMembers.{in_map, from_map, from_filter, in_filter}
use Rattle.semantics_schedules.specs.Schedules.{begins_with, preemptions}
use Rattle.semantics_schedules.specs.declared.limits.TheConstants.{STEPS}
use Rattle.semantics_schedules.proofs.ReducedSchedules.{from_enabled}
use Rattle.semantics_schedules.proofs.SchedulesUnderPrefix.{begin_both, begins_further, begins_longer}
use Rattle.semantics_schedules.proofs.UnfoldingUnderPrefix.{runs-push}
use Rattle.walk_items.specs.Children.{child_of, children_of, children, next_steps, costs, is_kept_step}
use Rattle.walk_items.specs.Items.{ItemView, root_of, state_of, everything, covers}
use Rattle.walk_items.specs.{Walks.{IsBelow, HasItsOf}, declared.mode.Mode.Mode}
use Rattle.walk_items.specs.declared.mode.Mode.TheVariants.{Bounded, Reduced}
use Rattle.walk_items.proofs.{Covers.covers-append, Filters.{filter_same, filter_none}}
use Rattle.walk_items.proofs.Permutations.{covers-permutation}
use Rattle.walk_items.proofs.Turns.{costs-append, cost_two, children_cost, preemptions_limit}
use Rattle.walk_cover.specs.CoverBy.{IsCoverBy, IsMissing, AreNested, IsUnused, CoverErrorMeans}
use Rattle.walk_cover.specs.{Covers.{IsCover, plain}, Prefixes.{is_entered, longer, further, IsComplete}}
use Rattle.walk_cover.specs.declared.covering.CoverError.{CoverError}
use Rattle.walk_cover.specs.declared.covering.CoverError.TheVariants.{Missing, Nested, Unused, OutOfMemory}
use Rattle.walk_cover.specs.inner.Reached.{IsFirst, IsReached, IsBare, IsOther}
use Rattle.walk_cover.proofs.Covers.{self_cover, further_cover, below_is_of, none_below, its_all, has_all}
use Rattle.walk_cover.proofs.{Lengths.complete_schedule, Listed.{all_in, in_all, begins_push}}
use Rattle.walk_cover.proofs.Plain.{by_plain, longer_plain}

-- covers, in another order and with an item in parts

pub cover_moved_items : (mode : Mode) (item : ItemView) (xs ys : List ItemView) →
    IsPermutation xs ys → IsCover mode item xs → IsCover mode item ys
cover_moved_items mode item xs ys m h = record {
  below = All-permutation (IsBelow item) xs ys m h.below;
  own = All-permutation (HasItsOf (plain mode) item) xs ys m h.own;
  once = λ w c. sym (covers-permutation w xs ys m) ∙ h.once w c;
}

-- the last item gives way to a cover of its own
pub last_parted : (mode : Mode) (item i : ItemView) (xs ds : List ItemView) →
    IsCover mode item (xs ++ i ∷ []) → IsCover mode i ds → IsCover mode item (xs ++ ds)
last_parted mode item i xs ds h part = record {
  below = in_all (IsBelow item) (xs ++ ds) (λ r m. elim (in_either xs ds r m) [
    | inl a ↦ all_in (IsBelow item) (xs ++ i ∷ []) r h.below (in_left xs (i ∷ []) r a)
    | inr b ↦ below_both r b
  ]);
  own = in_all (HasItsOf (plain mode) item) (xs ++ ds) (λ r m. elim (in_either xs ds r m) [
    | inl a ↦ all_in (HasItsOf (plain mode) item) (xs ++ i ∷ []) r h.own (in_left xs (i ∷ []) r a)
    | inr b ↦ all_in (HasItsOf (plain mode) item) ds r
        (has_all mode item (λ j. ds) i ds own part.below part.own) b
  ]);
  once = λ w c.
      let a = covers-append w xs ds in
      let b = covers-append w xs (i ∷ []) in
      let all = h.once w c in
      let same = one w c (begins_with i.prefix w) refl in
      omega (arith, a, b, all, same);
}
  where
    last : In (xs ++ i ∷ []) i
    last = in_right xs (i ∷ []) i (inl refl)

    below : IsBelow item i
    below = all_in (IsBelow item) (xs ++ i ∷ []) i h.below last

    own : HasItsOf (plain mode) item i
    own = all_in (HasItsOf (plain mode) item) (xs ++ i ∷ []) i h.own last

    below_both : (r : ItemView) → In ds r → IsBelow item r
    below_both r m =
        let b = all_in (IsBelow i) ds r part.below m in
        record {
          program = b.program ∙ below.program;
          item = b.item;
          prefix = begins_further item.prefix i.prefix r.prefix below.prefix b.prefix;
        }

    one : (w : List ℕ) → Contains (everything (plain mode) item) w → (on : Bool) →
        begins_with i.prefix w ≡ on → covers w ds ≡ one_if (begins_with i.prefix w) + 0
    one w c true e =
        part.once w (in_contains _ w
        (subst (λ L. In L w) (sym (its_all mode item i below own))
        (in_filter (begins_with i.prefix) (everything (plain mode) item) w (contains_in _ w c) e)))
        ∙ ap (λ b. one_if b + 0) (sym e)
    one w c false e =
        none_below i ds w part.below e ∙ ap (λ b. one_if b + 0) (sym e)

-- the way

-- some items are of listed prefixes, others are left to be gone into
pub record IsWay (mode : Mode) (p : Program) (prefixes : List (List ℕ))
    (items left : List ItemView) : Type 0 where
  pub cover : IsCover mode (root_of p) (items ++ left)
  pub listed : All (λ i. Contains prefixes i.prefix) items
  pub first : All (IsFirst prefixes) (items ++ left)

module _ (mode : Mode) (p : Program) (prefixes : List (List ℕ)) where
  pub way_start : (items before left : List ItemView) (r : ItemView) → items ≡ [] →
      before ≡ [] → left ≡ before ++ r ∷ [] → r ≡ root_of p → IsWay mode p prefixes items left
  way_start items before left r no_items no_left made is =
      subst (λ (xs : List ItemView). IsWay mode p prefixes xs left) (sym no_items)
      (subst (λ (xs : List ItemView). IsWay mode p prefixes [] xs)
      (sym (made ∙ (ap (λ xs. xs ++ r ∷ []) no_left ∙ ap (λ (x : ItemView). x ∷ []) is)))
      (record {
        cover = self_cover mode (root_of p) refl;
        listed = All-nil (λ i. Contains prefixes i.prefix);
        first = All-cons (IsFirst prefixes) (root_of p) []
            (in_all (λ x. begins_with x [] ≡ true → x ≡ []) prefixes (λ x m. begun x))
            (All-nil (IsFirst prefixes));
      }))
    where
      begun : (x : List ℕ) → begins_with x [] ≡ true → x ≡ []
      begun [] e = refl
      begun (t ∷ x) e = cc

  pub way_listed : (items left rest new : List ItemView) (i : ItemView) →
      IsWay mode p prefixes items left → left ≡ rest ++ i ∷ [] → new ≡ items ++ i ∷ [] →
      In prefixes i.prefix → IsWay mode p prefixes new rest
  way_listed items left rest new i h e made m =
      subst (λ xs. IsWay mode p prefixes xs rest) (sym made) (record {
        cover = cover_moved_items mode (root_of p) _ _ moved h.cover;
        listed = All-push (λ j. Contains prefixes j.prefix) items i h.listed
            (in_contains prefixes i.prefix m);
        first = All-permutation (IsFirst prefixes) _ _ moved h.first;
      })
    where
      moved : IsPermutation (items ++ left) ((items ++ i ∷ []) ++ rest)
      moved = IsPermutation-pop_more (items ++ left) items left rest i
          (IsPermutation-refl (items ++ left))
          (subst (λ xs. IsPermutation xs (i ∷ rest)) (sym e) (IsPermutation-to_front rest i))

  pub way_further : (items left rest new : List ItemView) (i : ItemView) → IsWellFormed p →
      IsWay mode p prefixes items left → left ≡ rest ++ i ∷ [] →
      (In prefixes i.prefix → ⊥) → is_terminal i.program (state_of i) ≡ false →
      new ≡ rest ++ further mode i → IsWay mode p prefixes items new
  way_further items left rest new i fine h e off more made =
      subst (λ xs. IsWay mode p prefixes items xs) (sym made) (record {
        cover = subst (IsCover mode (root_of p)) (append_assoc items rest (further mode i))
            (last_parted mode (root_of p) i (items ++ rest) (further mode i)
            (subst (IsCover mode (root_of p)) (sym (append_assoc items rest (i ∷ [])))
            (subst (λ xs. IsCover mode (root_of p) (items ++ xs)) e h.cover))
            (further_cover mode i below.item (below_is_of p i fine below)));
        listed = h.listed;
        first = in_all (IsFirst prefixes) (items ++ (rest ++ further mode i)) (λ r m.
            elim (in_either items (rest ++ further mode i) r m) [
              | inl a ↦ all_in (IsFirst prefixes) (items ++ left) r h.first
                  (in_left items left r a)
              | inr b ↦ elim (in_either rest (further mode i) r b) [
                | inl c ↦ all_in (IsFirst prefixes) (items ++ left) r h.first
                    (in_right items left r
                    (subst (λ xs. In xs r) (sym e) (in_left rest (i ∷ []) r c)))
                | inr d ↦ one r d
              ]
            ]);
      })
    where
      last : In (items ++ left) i
      last = in_right items left i
          (subst (λ xs. In xs i) (sym e) (in_right rest (i ∷ []) i (inl refl)))

      below : IsBelow (root_of p) i
      below = all_in (IsBelow (root_of p)) (items ++ left) i h.cover.below last

      first : IsFirst prefixes i
      first = all_in (IsFirst prefixes) (items ++ left) i h.first last

      one : (r : ItemView) → In (further mode i) r → IsFirst prefixes r
      one r d =
          let from = from_map (child_of mode i) (filter (is_entered mode i) (next_steps i)) r
          (subst (λ b. In (cond b (i ∷ []) (longer mode i)) r) more d) in
          in_all (λ x. begins_with x r.prefix ≡ true → x ≡ r.prefix) prefixes (λ x m b.
          subst (λ (j : ItemView). x ≡ j.prefix) from.2
          (elim (begins_push x i.prefix from.0
          (subst (λ (j : ItemView). begins_with x j.prefix ≡ true) (sym from.2) b)) [
            | inl k ↦ k
            | inr k ↦ absurd (off (subst (In prefixes)
                (all_in (λ y. begins_with y i.prefix ≡ true → y ≡ i.prefix) prefixes x first m k)
                m))
          ]))

  pub way_bare : (items left rest : List ItemView) (i : ItemView) → IsWay mode p prefixes items left →
      left ≡ rest ++ i ∷ [] → (In prefixes i.prefix → ⊥) → IsComplete i → IsBare mode p prefixes i
  way_bare items left rest i h e off over = record {
    only = sym (its_all mode (root_of p) i below
        (all_in (HasItsOf (plain mode) (root_of p)) (items ++ left) i h.cover.own last))
        ∙ complete_schedule mode i below.item over;
    bare = in_all (λ x. begins_with x i.prefix ≡ false) prefixes
        (λ x m. go x m (begins_with x i.prefix) refl);
  }
    where
      last : In (items ++ left) i
      last = in_right items left i
          (subst (λ xs. In xs i) (sym e) (in_right rest (i ∷ []) i (inl refl)))

      below : IsBelow (root_of p) i
      below = all_in (IsBelow (root_of p)) (items ++ left) i h.cover.below last

      go : (x : List ℕ) → In prefixes x → (b : Bool) → begins_with x i.prefix ≡ b →
          begins_with x i.prefix ≡ false
      go x m true k = absurd (off (subst (In prefixes)
          (all_in (λ y. begins_with y i.prefix ≡ true → y ≡ i.prefix) prefixes x
          (all_in (IsFirst prefixes) (items ++ left) i h.first last) m k) m))
      go x m false k = k

  pub way_end : (items left : List ItemView) → IsWay mode p prefixes items left → left ≡ [] →
      IsReached mode p prefixes items
  way_end items left h e =
      let same : items ++ left ≡ items = ap (λ xs. items ++ xs) e ∙ append-nil items in
      record {
        cover = subst (IsCover mode (root_of p)) same h.cover;
        listed = h.listed;
        first = subst (All (IsFirst prefixes)) same h.first;
      }

  -- what is wrong

  pub reached_cover : (items : List ItemView) → IsReached mode p prefixes items →
      ((x : List ℕ) → In prefixes x → In (map (λ i. i.prefix) items) x) →
      IsCoverBy mode p prefixes items
  reached_cover items h all = record {
    cover = h.cover;
    listed = λ w. (
      λ c. let from = from_map (λ (i : ItemView). i.prefix) items w (contains_in _ w c) in
          subst (Contains prefixes) from.2
          (all_in (λ i. Contains prefixes i.prefix) items from.0 h.listed from.1),
      λ c. in_contains _ w (all w (contains_in prefixes w c)),
    );
  }

  -- a schedule that is covered begins with the prefix of an item
  begun_by : (items : List ItemView) (w : List ℕ) → covers w items ≡ 1 →
      (i : ItemView) × In items i × (begins_with i.prefix w ≡ true)
  begun_by [] w h = absurd (omega (arith, h))
  begun_by (r ∷ rs) w h = go (begins_with r.prefix w) refl h (begun_by rs w)
    where
      go : (b : Bool) → begins_with r.prefix w ≡ b → one_if b + covers w rs ≡ 1 →
          (covers w rs ≡ 1 → (i : ItemView) × In rs i × (begins_with i.prefix w ≡ true)) →
          (i : ItemView) × In (r ∷ rs) i × (begins_with i.prefix w ≡ true)
      go true e k rest = (r, inl refl, e)
      go false e k rest =
          let more = rest (omega (arith, k)) in (more.0, inr more.1, more.2)

  -- none of these schedules begins with the prefix
  none_begins : (x : List ℕ) (L : List (List ℕ)) →
      ((w : List ℕ) → In L w → begins_with x w ≡ true → ⊥) → filter (begins_with x) L ≡ []
  none_begins x L h =
      filter_same (begins_with x) (λ w. false) L (λ w m. go w m (begins_with x w) refl)
      ∙ filter_none L
    where
      go : (w : List ℕ) → In L w → (b : Bool) → begins_with x w ≡ b → begins_with x w ≡ false
      go w m true e = absurd (h w m e)
      go w m false e = e

  pub other_unused : (items : List ItemView) (x : List ℕ) → IsReached mode p prefixes items →
      In prefixes x → (In (map (λ i. i.prefix) items) x → ⊥) →
      All (λ i. begins_with i.prefix x ≡ false) items → IsUnused mode p prefixes x
  other_unused items x h listed off none = record {
    listed = in_contains prefixes x listed;
    none = none_begins x (everything (plain mode) (root_of p)) (λ w m b.
        let one = begun_by items w (h.cover.once w (in_contains _ w m)) in
        elim (begin_both one.0.prefix x w one.2 b) [
          | inl k ↦
              let never = all_in (λ i. begins_with i.prefix x ≡ false) items one.0 none one.1 in
              let f : true ≡ false = sym k ∙ never in absurd (cc)
          | inr k ↦ off (subst (In (map (λ (i : ItemView). i.prefix) items)) (sym
              (all_in (λ y. begins_with y one.0.prefix ≡ true → y ≡ one.0.prefix) prefixes x
              (all_in (IsFirst prefixes) items one.0 h.first one.1) listed k))
              (in_map (λ (i : ItemView). i.prefix) items one.0 one.1))
        ]);
  }

  pub other_nested : (items : List ItemView) (v x : List ℕ) → IsReached mode p prefixes items →
      In prefixes x → (In (map (λ i. i.prefix) items) x → ⊥) →
      Contains (map (λ i. i.prefix) items) v → begins_with v x ≡ true → AreNested prefixes v x
  other_nested items v x h listed off c b =
      let from = from_map (λ (i : ItemView). i.prefix) items v (contains_in _ v c) in
      record {
        first = subst (Contains prefixes) from.2
            (all_in (λ i. Contains prefixes i.prefix) items from.0 h.listed from.1);
        second = in_contains prefixes x listed;
        apart = λ e. off (subst (In (map (λ (i : ItemView). i.prefix) items)) e
            (contains_in _ v c));
        begins = b;
      }

  pub longer_unused : (i : ItemView) (x : List ℕ) → IsBare mode p prefixes i → In prefixes x →
      begins_with i.prefix x ≡ true → IsUnused mode p prefixes x
  longer_unused i x h listed b = record {
    listed = in_contains prefixes x listed;
    none = none_begins x (everything (plain mode) (root_of p)) (λ w m k.
        let under = in_filter (begins_with i.prefix) (everything (plain mode) (root_of p)) w m
        (begins_further i.prefix x w b k) in
        elim (subst (λ L. In L w) h.only under) [
          | inl e ↦
              let never = all_in (λ y. begins_with y i.prefix ≡ false) prefixes x h.bare listed in
              let f : true ≡ false =
              sym k ∙ (ap (begins_with x) (sym e) ∙ never) in absurd (cc)
          | inr n ↦ absurd n
        ]);
  }

  pub bare_missing : (i : ItemView) (n : ℕ) (x : List ℕ) → IsBare mode p prefixes i →
      x ≡ take n i.prefix → All (λ y. begins_with x y ≡ false) prefixes →
      IsMissing mode p prefixes x
  bare_missing i n x h is none = record {
    none = none;
    schedule = i.prefix;
    is = in_contains _ i.prefix (from_filter (begins_with i.prefix)
        (everything (plain mode) (root_of p)) i.prefix
        (subst (λ L. In L i.prefix) (sym h.only) (inl refl))).0;
    begins = subst (λ v. begins_with v i.prefix ≡ true) (sym is)
        (subst (λ w. begins_with (take n i.prefix) w ≡ true) (take-append-drop n i.prefix)
        (begins_longer (take n i.prefix) _));
    bare = h.bare;
  }

-- how much is still to be gone

pub listed_less : (left rest : List ItemView) (i : ItemView) → left ≡ rest ++ i ∷ [] →
    costs rest < costs left
listed_less left rest i e =
    let sum = costs-append rest (i ∷ []) in
    let two = cost_two i in
    let same = ap costs e in
    omega (arith, sum, two, same)

longer_cost : (mode : Mode) (p : Program) (i : ItemView) → IsWellFormed p →
    IsBelow (root_of p) i → is_terminal i.program (state_of i) ≡ false →
    costs (longer mode i) + 2 ≤ costs (i ∷ [])
longer_cost mode p i fine b more =
    subst (λ L. costs L + 2 ≤ costs (i ∷ [])) (longer_plain mode i)
    (by_plain (λ m. costs (longer m i) + 2 ≤ costs (i ∷ [])) bounded
    (let less = children_cost Reduced i (below_is_of p i fine b) more in omega (arith, less)) mode)
  where
    within : (t : ℕ) → In (next_steps i) t → is_kept_step (Bounded STEPS) i t ≡ true
    within t m =
        let few : preemptions i.program (i.prefix ++ t ∷ []) ≤ STEPS =
        preemptions_limit i.program (i.prefix ++ t ∷ []) (subst IsWellFormed (sym b.program) fine)
        (runs-push i.program (start i.program) i.prefix t b.item
        (from_enabled i.program (state_of i) t m)) in
        grind (arith, nat_tests, few)

    bounded : (bound : ℕ) → costs (longer (Bounded bound) i) + 2 ≤ costs (i ∷ [])
    bounded bound =
        let less = children_cost (Bounded STEPS) i (below_is_of p i fine b) more in
        let same : children (Bounded STEPS) i ≡ longer (Bounded bound) i =
        ap (children_of (Bounded bound) i) (filter_same (is_kept_step (Bounded STEPS) i) (λ t. true)
        (next_steps i) within) in
        let costs_same = ap costs same in
        omega (arith, less, costs_same)

further_less : (mode : Mode) (p : Program) (left rest new : List ItemView) (i : ItemView) →
    IsWellFormed p → IsBelow (root_of p) i → is_terminal i.program (state_of i) ≡ false →
    left ≡ rest ++ i ∷ [] → new ≡ rest ++ further mode i → costs new < costs left
further_less mode p left rest new i fine b more e made =
    let before = costs-append rest (i ∷ []) in
    let after = costs-append rest (longer mode i) in
    let less = longer_cost mode p i fine b more in
    let same = ap costs e in
    let now : costs new ≡ costs (rest ++ longer mode i) =
    ap costs (made ∙ ap (λ on. rest ++ cond on (i ∷ []) (longer mode i)) more) in
    omega (arith, before, after, less, same, now)

pub way_less : (mode : Mode) (p : Program) (prefixes : List (List ℕ))
    (items left rest new : List ItemView) (i : ItemView) → IsWellFormed p →
    IsWay mode p prefixes items left → left ≡ rest ++ i ∷ [] →
    is_terminal i.program (state_of i) ≡ false → new ≡ rest ++ further mode i →
    costs new < costs left
way_less mode p prefixes items left rest new i fine h e more made =
    further_less mode p left rest new i fine
    (all_in (IsBelow (root_of p)) (items ++ left) i h.cover.below
    (in_right items left i (subst (λ xs. In xs i) (sym e) (in_right rest (i ∷ []) i (inl refl)))))
    more e made

-- what a refusal of a prefix that is that of no item says
pub other_means : (mode : Mode) (p : Program) (prefixes : List (List ℕ)) (items : List ItemView)
    (x : List ℕ) (e : CoverError) → IsReached mode p prefixes items → In prefixes x →
    (In (map (λ i. i.prefix) items) x → ⊥) → IsOther items x e →
    CoverErrorMeans mode p prefixes e
other_means mode p prefixes items x (Missing v) h listed off is = absurd is
other_means mode p prefixes items x (Nested v w) h listed off is =
    subst (λ y. AreNested prefixes v.items y) (sym is.0)
    (other_nested mode p prefixes items v.items x h listed off is.1 is.2)
other_means mode p prefixes items x (Unused v) h listed off is =
    subst (IsUnused mode p prefixes) (sym is.0)
    (other_unused mode p prefixes items x h listed off is.1)
other_means mode p prefixes items x OutOfMemory h listed off is = absurd is
