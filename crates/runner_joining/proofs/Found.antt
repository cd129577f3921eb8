-- What a search under a prefix finds is honest.
use Rattle.std.proofs.Common.{◌≡◌, ◌⊎◌, inl, inr, ℕ, ◌+◌, Bool, true, false, List, [], ◌∷◌, refl}
use Rattle.std.proofs.Common.{ap, ◌∙◌, sym, subst, Option, None}
use Rattle.std.{specs.List.{Contains, filter}, proofs.lemmas.List.Elements.Contains-push_cases}
use Rattle.guest_code.specs.Program.{Program}
use Rattle.semantics.specs.{Machine.start, Waiters.In}
use Rattle.semantics.proofs.ListMembers.{contains_in, in_filter}
use Rattle.semantics_schedules.specs.Schedules.{begins_with, complete_schedules, schedules_under}
use Rattle.semantics_schedules.proofs.ReducedSchedules.{in_red}
use Rattle.walk_summary.{specs.Summaries.{sum_of, with_beyond}, proofs.SumsJoin.sum_of_none}
use Rattle.walk_items.specs.Items.{ItemView, root_of, schedules_of, everything, item_sum}
use Rattle.walk_items.specs.declared.mode.Mode.{Mode, TheVariants.{Bounded, Reduced}}
use Rattle.walk_items.specs.declared.mode.Mode.TheVariants.{BoundedOnce, ReducedOnce}
use Rattle.walk_items.proofs.{Filters.{filter_same, filter_none}, WalkedItems.root_pruned}
use Rattle.book.specs.Progress.{mode_bound}
use Rattle.walk_cover.specs.Under.{IsUnder, HasNoneUnder}
use Rattle.runner_report.specs.declared.{level.Level.Level, options.Search.Search}
use Rattle.runner_report.specs.declared.options.Search.TheVariants.{UpTo, Unbounded}
use Rattle.runner.specs.Levels.{IsModeOf, ArePassedFrom, AreBelow, AreLevels, IsLastSum}
use Rattle.runner_parts.specs.declared.part.Part.{Part}
use Rattle.runner_joining.specs.Found.{AreLevelsUnder, IsFound, empty_level}
use Rattle.runner_joining.specs.Parts.{mode_at, last_mode, IsHonest}

-- the level, if it was not cut short, is the sum of what is under the prefix
abbrev IsHonestLevel : Program → List ℕ → Level → Type 0
IsHonestLevel p w l = l.cause ≡ None → (j : ItemView) → IsUnder (mode_at l.bound) p w j →
    l.summary ≡ item_sum (mode_at l.bound) j

-- at a bound the prefix alone says what an item's sum is
same_bounded : (bound : ℕ) (m n : Mode) (p : Program) (w : List ℕ) (i j : ItemView) →
    IsUnder m p w i → IsUnder n p w j → item_sum (Bounded bound) i ≡ item_sum (Bounded bound) j
same_bounded bound m n p w i j a b = λ k. item_sum (Bounded bound) (record {
  program = (a.below.program ∙ sym b.below.program) k;
  prefix = (a.is ∙ sym b.is) k;
  mask = i.mask;
})

not_once : false ≡ true → ⊥
not_once e = cc

same_sum : (search : Search) (mode : Mode) (p : Program) (w : List ℕ) (i j : ItemView) →
    IsModeOf false search mode → IsUnder (last_mode search) p w i → IsUnder mode p w j →
    item_sum mode i ≡ item_sum mode j
same_sum (UpTo last) (Bounded bound) p w i j of a b =
    same_bounded bound (Bounded last) (Bounded bound) p w i j a b
same_sum (UpTo last) (BoundedOnce bound) p w i j of a b = absurd (not_once of.0)
same_sum (UpTo last) Reduced p w i j of a b = absurd of
same_sum (UpTo last) ReducedOnce p w i j of a b = absurd of
same_sum Unbounded (Bounded bound) p w i j of a b = absurd of
same_sum Unbounded (BoundedOnce bound) p w i j of a b = absurd of
same_sum Unbounded ReducedOnce p w i j of a b = absurd (not_once of)
same_sum Unbounded Reduced p w i j of a b =
    let schedules : schedules_of Reduced i ≡ schedules_of Reduced j =
    a.own ∙ (ap (λ v. filter (begins_with v) (schedules_of Reduced (root_of p))) (a.is ∙ sym b.is)
    ∙ sym b.own) in
    λ k. with_beyond (sum_of ((a.below.program ∙ sym b.below.program) k) (schedules k)) false

at_mode : (search : Search) (mode : Mode) → IsModeOf false search mode →
    mode_at (mode_bound mode) ≡ mode
at_mode search (Bounded bound) of = refl
at_mode search Reduced of = refl
at_mode (UpTo last) (BoundedOnce bound) of = absurd (not_once of.0)
at_mode (UpTo last) ReducedOnce of = absurd of
at_mode Unbounded (BoundedOnce bound) of = absurd of
at_mode Unbounded ReducedOnce of = absurd (not_once of)

-- the levels of an item

passed_honest : (last : ℕ) (p : Program) (w : List ℕ) (i : ItemView) (bound : ℕ)
    (levels : List Level) (l : Level) → IsUnder (Bounded last) p w i →
    ArePassedFrom i bound levels → In levels l → IsHonestLevel p w l
passed_honest last p w i bound [] l under h m = absurd m
passed_honest last p w i bound (x ∷ xs) l under h (inl e) =
    subst (IsHonestLevel p w) e (λ whole j.
    subst (λ o. IsUnder (mode_at o) p w j → x.summary ≡ item_sum (mode_at o) j) (sym h.0.at)
    (λ u. h.0.summary ∙ same_bounded bound (Bounded last) (Bounded bound) p w i j under u))
passed_honest last p w i bound (x ∷ xs) l under h (inr m) =
    passed_honest last p w i (bound + 1) xs l under h.1 m

below_honest : (search : Search) (mode : Mode) (p : Program) (w : List ℕ) (i : ItemView)
    (levels : List Level) (l : Level) → IsModeOf false search mode → IsUnder (last_mode search) p w i →
    AreBelow i mode levels → In levels l → IsHonestLevel p w l
below_honest (UpTo last) (Bounded bound) p w i levels l of under h m =
    passed_honest last p w i 0 levels l under h.1 m
below_honest (UpTo last) Reduced p w i levels l of under h m = absurd of
below_honest Unbounded (Bounded bound) p w i levels l of under h m = absurd of
below_honest search (BoundedOnce bound) p w i levels l of under h m = absurd h
below_honest search ReducedOnce p w i levels l of under h m = absurd h
below_honest Unbounded Reduced p w i levels l of under h m =
    absurd (subst (λ ls. In ls l) h m)

last_honest : (search : Search) (limit : Option ℕ) (mode : Mode) (p : Program) (w : List ℕ)
    (i : ItemView) (l : Level) → IsModeOf false search mode → IsUnder (last_mode search) p w i →
    l.bound ≡ mode_bound mode → IsLastSum false search limit mode i l.cause l.summary →
    IsHonestLevel p w l
last_honest search limit mode p w i l of under at sum whole j =
    let told = subst (λ cause. IsLastSum false search limit mode i cause l.summary) whole sum in
    subst (λ m. IsUnder m p w j → l.summary ≡ item_sum m j)
    (sym (at_mode search mode of) ∙ ap mode_at (sym at))
    (λ u. told.0 ∙ same_sum search mode p w i j of under u)

levels_honest : (search : Search) (limit : Option ℕ) (p : Program) (w : List ℕ) (i : ItemView)
    (levels : List Level) (l : Level) → IsUnder (last_mode search) p w i →
    AreLevels false search limit i levels → Contains levels l → IsHonestLevel p w l
levels_honest search limit p w i levels l under h m =
    go (Contains-push_cases h.passed h.last l (subst (λ ls. Contains ls l) h.all m))
  where
    go : Contains h.passed l ⊎ (h.last ≡ l) → IsHonestLevel p w l
    go (inl c) = below_honest search h.mode p w i h.passed l h.of under h.below
        (contains_in h.passed l c)
    go (inr e) = subst (IsHonestLevel p w) e
        (last_honest search limit h.mode p w i h.last h.of under h.bound h.sum)

-- no schedule is under a prefix

none_bounded : (bound : ℕ) (p : Program) (w : List ℕ) → HasNoneUnder (Bounded bound) p w →
    filter (begins_with w) (schedules_of Reduced (root_of p)) ≡ []
unfolding schedules_under
none_bounded bound p w h =
    filter_same (begins_with w) (λ v. false) kept (λ v m. off v m (begins_with w v) refl)
    ∙ filter_none kept
  where
    kept : List (List ℕ)
    kept = schedules_of Reduced (root_of p)

    all : (v : List ℕ) → In kept v → In (everything (Bounded bound) (root_of p)) v
    all v m = in_filter (begins_with []) (complete_schedules p (start p)) v
        (in_red p (start p) v (subst (λ L. In L v) (root_pruned p) m)) refl

    off : (v : List ℕ) → In kept v → (b : Bool) → begins_with w v ≡ b → begins_with w v ≡ false
    off v m false e = e
    off v m true e =
        absurd (subst (λ L. In L v) h
        (in_filter (begins_with w) (everything (Bounded bound) (root_of p)) v (all v m) e))

none_pruned : (mode : Mode) (p : Program) (w : List ℕ) → HasNoneUnder mode p w →
    filter (begins_with w) (schedules_of Reduced (root_of p)) ≡ []
none_pruned (Bounded bound) p w h = none_bounded bound p w h
none_pruned (BoundedOnce bound) p w h = none_bounded bound p w h
none_pruned Reduced p w h = h
none_pruned ReducedOnce p w h = h

none_honest : (mode : Mode) (p : Program) (w : List ℕ) → HasNoneUnder mode p w →
    IsHonestLevel p w empty_level
none_honest mode p w h whole j under =
    let schedules : schedules_of Reduced j ≡ [] =
    under.own ∙ (ap (λ v. filter (begins_with v) (schedules_of Reduced (root_of p))) under.is
    ∙ none_pruned mode p w h) in
    sym ((λ k. with_beyond (sum_of j.program (schedules k)) false)
    ∙ ap (λ s. with_beyond s false) (sum_of_none j.program))

one_only : (x l : Level) → Contains (x ∷ []) l → x ≡ l
one_only x l m = elim (contains_in (x ∷ []) l m) [ inl e ↦ e | inr n ↦ absurd n ]

pub found_honest : (p : Program) (x : Part) → IsFound p x → IsHonest p x
found_honest p x h = go h.are
  where
    go : AreLevelsUnder p h.options x.under.items h.levels → IsHonest p x
    go (inl is) =
        levels_honest h.options.search h.options.limit p x.under.items is.0 h.levels x.level is.1
        is.2 h.one
    go (inr is) =
        subst (IsHonestLevel p x.under.items)
        (one_only empty_level x.level (subst (λ ls. Contains ls x.level) is.1 h.one))
        (none_honest (last_mode h.options.search) p x.under.items is.0)
